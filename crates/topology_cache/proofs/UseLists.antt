-- Uses in a list, and the users of records that are put together from them.
use Rattle.std.proofs.Common.{◌≡◌, ℕ, ◌+◌, Bool, true, false, ◌&&◌, ◌||◌, List, [], ◌∷◌, ◌++◌, take, get_or, length, ◌<◌, Option}
use Rattle.std.proofs.Common.{refl, sym, ap, ◌∙◌}
use Rattle.std.specs.Prelude.{is_some}
use Rattle.std.specs.Option.{unwrap_or}
use Rattle.std.specs.FinMap as finite
use Rattle.std.proofs.lemmas.List.Folds.{list_any_more, list_any-append}
use Rattle.chart_model.specs.declared.name.Name.{Name}
use Rattle.chart_model.specs.declared.record.Pointer.{Pointer}
use Rattle.chart_model.specs.Names.{name_cmp}
use Rattle.topology_cache.specs.declared.usage.Use.{Use}
use Rattle.topology_cache.specs.Users.{Names, UsersValue, set_at, same_name, points_to_any}
use Rattle.topology_cache.specs.Sets.{is_use, is_user}
use Rattle.topology_cache.proofs.Uses.{user-insert}

-- the test that a use is that of an edge by a feature
abbrev is_of : Name → Name → Use → Bool
is_of edge name one = same_name one.target edge && same_name one.user name

pushed-more : (p q s u : Bool) → (((p && s) || u) || ((q && s) || false)) ≡ (((p || q) && s) || u)
pushed-more true q true u = refl
pushed-more true true false true = refl
pushed-more true false false true = refl
pushed-more true true false false = refl
pushed-more true false false false = refl
pushed-more false true true true = refl
pushed-more false true true false = refl
pushed-more false false s true = refl
pushed-more false false s false = refl
pushed-more false true false true = refl
pushed-more false true false false = refl

module _ (start : List Use) (user : Name) (pointers : List Pointer) where
  -- the uses of the records that the first pointers name were added
  abbrev pub ArePushed : List Use → ℕ → Type 0
  ArePushed uses i = (edge name : Name) → is_use uses edge name
      ≡ ((points_to_any edge (take i pointers) && same_name user name) || is_use start edge name)

  pub push-more : (uses after : List Use) (i : ℕ) (d : Pointer) → i < length pointers → ArePushed uses i
      → after ≡ uses ++ record { target = (get_or pointers i d).target; user = user } ∷ [] → ArePushed after (i + 1)
  push-more uses after i d fits so more edge name =
      let target = (get_or pointers i d).target in
      ap (λ (l : List Use). is_use l edge name) more
      ∙ list_any-append (is_of edge name) uses (record { target = target; user = user } ∷ [])
      ∙ ap (λ b. b || ((same_name target edge && same_name user name) || false)) (so edge name)
      ∙ pushed-more (points_to_any edge (take i pointers)) (same_name target edge) (same_name user name)
      (is_use start edge name)
      ∙ ap (λ b. (b && same_name user name) || is_use start edge name)
      (sym (list_any_more (λ (p : Pointer). same_name p.target edge) pointers i d fits))

-- ---- record by record

-- no record has a user
pub nobody : (users : UsersValue) (edge name : Name) → users ≡ finite.empty → is_user users edge name ≡ false
nobody users edge name none =
    ap (λ (u : UsersValue). is_user u edge name) none
    ∙ ap (λ (o : Option Names). finite.contains_key (unwrap_or o finite.empty) name) (finite.get-empty name_cmp edge)
    ∙ ap (λ (o : Option (Unit {0})). is_some o) (finite.get-empty name_cmp name)

either : (a b : Bool) → (a || b) ≡ (b || a)
either true true = refl
either true false = refl
either false true = refl
either false false = refl

-- the users are those of the first uses
abbrev pub AreAdded : List Use → UsersValue → ℕ → Type 0
AreAdded uses users i = (edge name : Name) → is_user users edge name ≡ is_use (take i uses) edge name

pub add-more : (uses : List Use) (users after : UsersValue) (i : ℕ) (d : Use) → i < length uses → AreAdded uses users i
    → after ≡ finite.insert users (get_or uses i d).target
    (finite.insert (set_at users (get_or uses i d).target) (get_or uses i d).user tt) → AreAdded uses after (i + 1)
add-more uses users after i d fits so more edge name =
    let one = get_or uses i d in
    ap (λ (u : UsersValue). is_user u edge name) more
    ∙ user-insert users one.target one.user edge name
    ∙ ap (λ b. is_of edge name one || b) (so edge name)
    ∙ either (is_of edge name one) (is_use (take i uses) edge name)
    ∙ sym (list_any_more (is_of edge name) uses i d fits)
