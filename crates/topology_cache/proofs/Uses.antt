-- Who uses a record, after each change of a map of users.
use Rattle.std.proofs.Common.{◌≡◌, ◌≢◌, ℕ, ◌+◌, Bool, true, false, cond, ◌&&◌, ◌||◌, not, List, take}
use Rattle.std.proofs.Common.{get_or, length, ◌<◌, Option, Some, None, refl, sym, ap, ◌∙◌, subst}
use Rattle.std.specs.Prelude.{◌==◌, IfSome, is_some, OnOk, OnErr, Result, Ok, Err}
use Rattle.std.specs.Ordering.{eq_by_cmp, is_eq}
use Rattle.std.specs.Cmp.{tied_itself}
use Rattle.std.specs.Option.{unwrap_or}
use Rattle.std.specs.FinMap as finite
use Rattle.std.proofs.lemmas.List.Folds.{list_any_more}
use Rattle.chart_model.specs.declared.name.Name.{Name}
use Rattle.chart_model.specs.declared.record.Pointer.{Pointer}
use Rattle.chart_model.specs.Names.{name_cmp}
use Rattle.chart_model.proofs.Names.{name_cmp-total, name_cmp-IsAntisymmetric}
use Rattle.chart_model.proofs.Maps.{tied, each-insert, remove-absent}
use Rattle.std.specs.Map.{lookup}
use Rattle.std.specs.BTreeMap.{is_at}
use Rattle.chart_model.proofs.Trees.{insert-tree}
use Rattle.topology_cache.specs.Users.{Names, UsersValue, HasNoEmpty, set_at, same_name, points_to_any}
use Rattle.topology_cache.specs.Sets.{is_user}
use Rattle.topology_cache.proofs.Same.{ties-same}

-- the users of a record, after they were put in place of others
pub set-insert : (users : UsersValue) (edge other : Name) (names : Names)
    → set_at (finite.insert users edge names) other ≡ cond (eq_by_cmp name_cmp other edge) names (set_at users other)
set-insert users edge other names =
    ap (λ o. unwrap_or o finite.empty) (finite.get-insert name_cmp-total users edge names other)
    ∙ elim (eq_by_cmp name_cmp other edge) as (λ b. unwrap_or (cond b (Some names) (finite.get users other))
    finite.empty ≡ cond b names (set_at users other)) [ true ↦ refl | false ↦ refl ]

pub set-remove : (users : UsersValue) (edge other : Name)
    → set_at (finite.remove users edge) other ≡ cond (eq_by_cmp name_cmp other edge) finite.empty (set_at users other)
set-remove users edge other =
    ap (λ o. unwrap_or o finite.empty) (finite.get-remove name_cmp-total users edge other)
    ∙ elim (eq_by_cmp name_cmp other edge) as (λ b. unwrap_or (cond b None (finite.get users other)) finite.empty
    ≡ cond b finite.empty (set_at users other)) [ true ↦ refl | false ↦ refl ]

both-or : (a b u v : Bool) → (a ≡ true → v ≡ u) → cond a (b || v) u ≡ ((a && b) || u)
both-or true b u v same = ap (λ (w : Bool). b || w) (same refl)
both-or false b u v same = refl

not-both : (a b u v : Bool) → (a ≡ true → v ≡ u) → cond a (not b && v) u ≡ (not (a && b) && u)
not-both true b u v same = ap (λ (w : Bool). not b && w) (same refl)
not-both false b u v same = refl

some-or : (b : Bool) (o : Option (Unit {0})) → is_some (cond b (Some tt) o) ≡ (b || is_some o)
some-or true o = refl
some-or false o = refl

none-or : (b : Bool) (o : Option (Unit {0})) → is_some (cond b None o) ≡ (not b && is_some o)
none-or true o = refl
none-or false o = refl

chosen : (a : Bool) (s t : Names) (name : Name)
    → finite.contains_key (cond a s t) name ≡ cond a (finite.contains_key s name) (finite.contains_key t name)
chosen true s t name = refl
chosen false s t name = refl

same-users : (users : UsersValue) (edge other name : Name) → eq_by_cmp name_cmp other edge ≡ true
    → is_user users edge name ≡ is_user users other name
same-users users edge other name e =
    ap (λ (n : Name). is_user users n name) (sym (name_cmp-IsAntisymmetric other edge (tied (name_cmp other edge) e)))

-- the user and the edge of a use, as tests of names
named : (edge other user name : Name)
    → (eq_by_cmp name_cmp other edge && eq_by_cmp name_cmp name user) ≡ (same_name edge other && same_name user name)
named edge other user name i = ties-same other edge i && ties-same name user i

pub user-insert : (users : UsersValue) (edge user other name : Name)
    → is_user (finite.insert users edge (finite.insert (set_at users edge) user tt)) other name
    ≡ ((same_name edge other && same_name user name) || is_user users other name)
user-insert users edge user other name =
    let put = finite.insert (set_at users edge) user tt in
    let here : finite.contains_key put name ≡ (eq_by_cmp name_cmp name user || is_user users edge name) =
    ap is_some (finite.get-insert name_cmp-total (set_at users edge) user tt name) ∙ some-or _ _ in
    ap (λ s. finite.contains_key s name) (set-insert users edge other put)
    ∙ chosen _ put (set_at users other) name
    ∙ ap (λ b. cond (eq_by_cmp name_cmp other edge) b (is_user users other name)) here
    ∙ both-or (eq_by_cmp name_cmp other edge) _ _ _ (same-users users edge other name)
    ∙ ap (λ b. b || is_user users other name) (named edge other user name)

pub user-remove : (users : UsersValue) (edge user other name : Name)
    → is_user (finite.insert users edge (finite.remove (set_at users edge) user)) other name
    ≡ (not (same_name edge other && same_name user name) && is_user users other name)
user-remove users edge user other name =
    let left = finite.remove (set_at users edge) user in
    let here : finite.contains_key left name ≡ (not (eq_by_cmp name_cmp name user) && is_user users edge name) =
    ap is_some (finite.get-remove name_cmp-total (set_at users edge) user name) ∙ none-or _ _ in
    ap (λ s. finite.contains_key s name) (set-insert users edge other left)
    ∙ chosen _ left (set_at users other) name
    ∙ ap (λ b. cond (eq_by_cmp name_cmp other edge) b (is_user users other name)) here
    ∙ not-both (eq_by_cmp name_cmp other edge) _ _ _ (same-users users edge other name)
    ∙ ap (λ b. not b && is_user users other name) (named edge other user name)

-- ---- pointer by pointer

one-more-or : (p q s u : Bool) → ((q && s) || ((p && s) || u)) ≡ (((p || q) && s) || u)
one-more-or true true true u = refl
one-more-or true true false u = refl
one-more-or true false s u = refl
one-more-or false true true u = refl
one-more-or false true false u = refl
one-more-or false false s u = refl

one-more-not : (p q s u : Bool) → (not (q && s) && (not (p && s) && u)) ≡ (not ((p || q) && s) && u)
one-more-not true true true u = refl
one-more-not true true false u = refl
one-more-not true false s u = refl
one-more-not false true true u = refl
one-more-not false true false u = refl
one-more-not false false s u = refl

module _ (start : UsersValue) (user : Name) (pointers : List Pointer) where
  -- the user was put to those of the records that the first pointers name
  abbrev pub ArePut : UsersValue → ℕ → Type 0
  ArePut users i = (edge name : Name) → is_user users edge name
      ≡ ((points_to_any edge (take i pointers) && same_name user name) || is_user start edge name)

  -- it was taken from them
  abbrev pub AreTaken : UsersValue → ℕ → Type 0
  AreTaken users i = (edge name : Name) → is_user users edge name
      ≡ (not (points_to_any edge (take i pointers) && same_name user name) && is_user start edge name)

  one-more : (edge : Name) (i : ℕ) (d : Pointer) → i < length pointers
      → points_to_any edge (take (i + 1) pointers) ≡ (points_to_any edge (take i pointers)
      || same_name (get_or pointers i d).target edge)
  one-more edge i d fits = list_any_more (λ (p : Pointer). same_name p.target edge) pointers i d fits

  pub put-more : (users after : UsersValue) (i : ℕ) (d : Pointer) → i < length pointers → ArePut users i
      → after ≡ finite.insert users (get_or pointers i d).target
      (finite.insert (set_at users (get_or pointers i d).target) user tt) → ArePut after (i + 1)
  put-more users after i d fits so more edge name =
      ap (λ (u : UsersValue). is_user u edge name) more
      ∙ user-insert users (get_or pointers i d).target user edge name
      ∙ ap (λ b. (same_name (get_or pointers i d).target edge && same_name user name) || b) (so edge name)
      ∙ one-more-or (points_to_any edge (take i pointers)) (same_name (get_or pointers i d).target edge)
      (same_name user name) (is_user start edge name)
      ∙ ap (λ b. (b && same_name user name) || is_user start edge name) (sym (one-more edge i d fits))

  pub take-more : (users after : UsersValue) (i : ℕ) (d : Pointer) → i < length pointers → AreTaken users i
      → ((other : Name) → set_at after other ≡ set_at (finite.insert users (get_or pointers i d).target
      (finite.remove (set_at users (get_or pointers i d).target) user)) other) → AreTaken after (i + 1)
  take-more users after i d fits so less edge name =
      ap (λ (s : Names). finite.contains_key s name) (less edge)
      ∙ user-remove users (get_or pointers i d).target user edge name
      ∙ ap (λ b. not (same_name (get_or pointers i d).target edge && same_name user name) && b) (so edge name)
      ∙ one-more-not (points_to_any edge (take i pointers)) (same_name (get_or pointers i d).target edge)
      (same_name user name) (is_user start edge name)
      ∙ ap (λ b. not (b && same_name user name) && is_user start edge name) (sym (one-more edge i d fits))

-- ---- no set is empty

abbrev pub IsFilled : Name → Names → Type 0
IsFilled edge names = finite.len names ≢ 0

filled-insert : (names : Names) (user : Name) → finite.len (finite.insert names user tt) ≢ 0
filled-insert names user none =
    let found : finite.get (finite.insert names user tt) user ≡ Some tt =
    finite.get-insert name_cmp-total names user tt user
    ∙ ap (λ o. cond (is_eq o) (Some tt) (finite.get names user)) (tied_itself name_cmp-total user) in
    let gone : finite.get (finite.insert names user tt) user ≡ None =
    ap (λ (m : Names). finite.get m user) (finite.empty_of_len _ none) ∙ finite.get-empty name_cmp user in
    let clash : Some tt ≡ None = sym found ∙ gone in
    cc

-- a user that was put, or for which there was no memory
pub filled-put : {E : Type 0} (r : Result (Unit {0}) E) (old new : Names) (user : Name)
    → OnOk r (new ≡ finite.insert old user tt) → OnErr r (new ≡ old)
    → finite.len old ≢ 0 → finite.len new ≢ 0
filled-put (Ok u) old new user put kept some = subst (λ (s : Names). finite.len s ≢ 0) (sym put)
    (filled-insert old user)
filled-put (Err e) old new user put kept some = subst (λ (s : Names). finite.len s ≢ 0) (sym kept) some

pub filled-one : (user : Name) → finite.len (finite.insert (finite.empty {X = Unit {0}} {R = name_cmp}) user tt) ≢ 0
filled-one user = filled-insert finite.empty user

pub none-empty-insert : (users : UsersValue) (edge : Name) (names : Names) → HasNoEmpty users → finite.len names ≢ 0
    → HasNoEmpty (finite.insert users edge names)
none-empty-insert users edge names filled some = each-insert name_cmp-total name_cmp-IsAntisymmetric IsFilled users
    edge names filled some

-- the set under a name that has one is filled
pub filled-there : (users : UsersValue) (edge : Name) (names : Names) → HasNoEmpty users
    → finite.get users edge ≡ Some names → finite.len names ≢ 0
filled-there users edge names filled found = subst (λ o. IfSome o (λ (s : Names). finite.len s ≢ 0)) found (filled edge)

-- ---- a user taken out

-- from a record that has no users
pub take-absent : (users : UsersValue) (edge user other : Name) → finite.get users edge ≡ None
    → set_at users other ≡ set_at (finite.insert users edge (finite.remove (set_at users edge) user)) other
take-absent users edge user other absent =
    let none : finite.remove (set_at users edge) user ≡ finite.empty =
    ap (λ o. finite.remove (unwrap_or o finite.empty) user) absent
    ∙ remove-absent name_cmp-total name_cmp-IsAntisymmetric finite.empty user (finite.get-empty name_cmp user) in
    sym (set-insert users edge other _
    ∙ ap (λ s. cond (eq_by_cmp name_cmp other edge) s (set_at users other)) none
    ∙ same_there (eq_by_cmp name_cmp other edge) refl)
  where
    same_there : (b : Bool) → eq_by_cmp name_cmp other edge ≡ b
        → cond b finite.empty (set_at users other) ≡ set_at users other
    same_there true e =
        ap (λ o. unwrap_or o finite.empty) (sym absent)
        ∙ ap (λ (n : Name). set_at users n) (sym (name_cmp-IsAntisymmetric other edge (tied (name_cmp other edge) e)))
    same_there false e = refl

-- with the record itself, where it was the last
pub take-last : (users : UsersValue) (edge user other : Name) (names : Names)
    → names ≡ finite.remove (set_at users edge) user → finite.len names ≡ 0
    → set_at (finite.remove (finite.insert users edge names) edge) other
    ≡ set_at (finite.insert users edge (finite.remove (set_at users edge) user)) other
take-last users edge user other names left none =
    let tie = eq_by_cmp name_cmp other edge in
    set-remove (finite.insert users edge names) edge other
    ∙ ap (λ s. cond tie finite.empty s) (set-insert users edge other names)
    ∙ twice tie finite.empty names (set_at users other)
    ∙ ap (λ s. cond tie s (set_at users other)) (sym (finite.empty_of_len names none) ∙ left)
    ∙ sym (set-insert users edge other (finite.remove (set_at users edge) user))
  where
    twice : (b : Bool) (x y z : Names) → cond b x (cond b y z) ≡ cond b x z
    twice true x y z = refl
    twice false x y z = refl

-- ---- a map of users as a tree

-- what stands in the tree under an edge after names were written there
pub tree-written : (old new : List (Name × Names)) (m : UsersValue) (edge : Name) (names : Names)
    → finite.from_entries old ≡ m
    → ((q : Name) → lookup (is_at (name_cmp q)) new ≡ cond (is_at (name_cmp edge) q) (Some names)
    (lookup (is_at (name_cmp q)) old))
    → finite.from_entries new ≡ finite.insert m edge names
tree-written old new m edge names seen is =
    insert-tree name_cmp-total name_cmp-IsAntisymmetric old new edge names is
    ∙ ap (λ n. finite.insert n edge names) seen

-- a user that was put to those that an edge has, or for which there was no memory
pub written-put : {E : Type 0} (r : Result (Unit {0}) E) (m after : UsersValue) (edge user : Name) (names new : Names)
    → finite.get m edge ≡ Some names
    → after ≡ finite.insert m edge new → OnOk r (new ≡ finite.insert names user tt)
    → OnOk r (after ≡ finite.insert m edge (finite.insert (set_at m edge) user tt))
written-put (Ok u) m after edge user names new found written put =
    written
    ∙ ap (finite.insert m edge) (put ∙ ap (λ o. finite.insert (unwrap_or o finite.empty) user tt) (sym found))
written-put (Err e) m after edge user names new found written put = tt

-- the first user of an edge
pub written-first : (m : UsersValue) (edge user : Name) (names : Names) → finite.get m edge ≡ None
    → names ≡ finite.insert finite.empty user tt
    → finite.insert m edge names ≡ finite.insert m edge (finite.insert (set_at m edge) user tt)
written-first m edge user names absent first =
    ap (finite.insert m edge) (first ∙ ap (λ (o : Option Names). finite.insert (unwrap_or o finite.empty) user tt)
    (sym absent))

-- a user taken from those that an edge has
pub written-left : (m : UsersValue) (edge user : Name) (names new : Names) → finite.get m edge ≡ Some names
    → new ≡ finite.remove names user
    → new ≡ finite.remove (set_at m edge) user
written-left m edge user names new found less = less ∙ ap (λ (o : Option Names). finite.remove
    (unwrap_or o finite.empty) user) (sym found)

-- whatever was put under an edge, without it no set is empty
pub none-empty-without : (m : UsersValue) (edge : Name) (names : Names) → HasNoEmpty m
    → HasNoEmpty (finite.remove (finite.insert m edge names) edge)
none-empty-without m edge names filled q =
    subst (λ (o : Option Names). IfSome o (λ (s : Names). finite.len s ≢ 0))
    (sym (finite.get-remove name_cmp-total (finite.insert m edge names) edge q
    ∙ ap (λ (o : Option Names). cond (eq_by_cmp name_cmp q edge) None o)
    (finite.get-insert name_cmp-total m edge names q)))
    (elim (eq_by_cmp name_cmp q edge) as (λ b. IfSome (cond b None (cond b (Some names) (finite.get m q)))
    (λ (s : Names). finite.len s ≢ 0)) [
      | true ↦ tt
      | false ↦ filled q
    ])

pub not-none : (b : Bool) (n : ℕ) → b ≡ (n == 0) → b ≡ false → n ≢ 0
not-none b n is off none =
    let clash : false ≡ true = sym off ∙ is ∙ ap (λ k. k == 0) none in
    cc
