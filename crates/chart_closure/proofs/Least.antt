-- The first fault in a sorted list of records is that of the least name with one.
use Rattle.std.proofs.Common.{◌≡◌, ◌≢◌, Bool, true, false, T, ◌&&◌, List, [], ◌∷◌, ◌++◌, map, Option, Some, None, option_and_then, is_some, IsSome, refl, sym, ap, ◌∙◌}
use Rattle.std.specs.Option.{option_or}
use Rattle.std.specs.declared.cmp.Ordering.{Ordering}
use Rattle.std.specs.declared.cmp.Ordering.TheVariants.{Less, Equal, Greater}
use Rattle.std.specs.Ordering.{is_lt, is_eq, eq_by_cmp}
use Rattle.std.specs.Cmp.{tied_itself}
use Rattle.std.specs.FinMap.{find, is_sorted}
use Rattle.std.specs.FinMap.Entries.{below_all}
use Rattle.std.proofs.lemmas.Bool.{false≢true}
use Rattle.std.proofs.lemmas.Option.{none-some}
use Rattle.chart_model.specs.declared.name.Name.{Name}
use Rattle.chart_model.specs.Names.{name_cmp}
use Rattle.chart_closure.specs.declared.fault.ClosureFault.{ClosureFault}
use Rattle.chart_model.specs.Answers.{first_of}
use Rattle.chart_model.proofs.Names.{name_cmp-total, name_cmp-IsAntisymmetric}

pub first_of-append : (xs ys : List (Option ClosureFault)) → first_of (xs ++ ys) ≡ option_or (first_of xs) (first_of ys)
first_of-append [] ys = refl
first_of-append (None ∷ xs) ys = first_of-append xs ys
first_of-append (Some fault ∷ xs) ys = refl

first : (a b : Bool) → T (a && b) → T a
first true b p = tt
first false b p = p

second : (a b : Bool) → T (a && b) → T b
second true b p = p
second false b p = absurd p

less : (o : Ordering) → T (is_lt o) → o ≡ Less
less Less p = refl
less Equal p = absurd p
less Greater p = absurd p

equal_not_greater : Equal ≡ Greater → ⊥
equal_not_greater e = cc

less_not_greater : Less ≡ Greater → ⊥
less_not_greater e = cc

equal_not_less : Equal ≡ Less → ⊥
equal_not_less e = cc

itself : (x : Name) → name_cmp x x ≡ Equal
itself x = tied_itself name_cmp-total x

-- one name or another, by the test of the map
by_tie : {P : Type 0} (q x : Name) → (q ≡ x → eq_by_cmp name_cmp q x ≡ true → P) → (eq_by_cmp name_cmp q x ≡ false → P) → P
by_tie {P} q x f g = go (name_cmp q x) refl
  where
    go : (o : Ordering) → name_cmp q x ≡ o → P
    go Less e = g (ap is_eq e)
    go Equal e = f (name_cmp-IsAntisymmetric q x e) (ap is_eq e)
    go Greater e = g (ap is_eq e)

-- the fault that f finds of the record of a name
abbrev pub fault_in : {V : Type 0} → (Name → V → Option ClosureFault) → List (Name × V) → Name → Option ClosureFault
fault_in f es q = option_and_then (f q) (find name_cmp q es)

-- the first fault
abbrev pub first_fault : {V : Type 0} → (Name → V → Option ClosureFault) → List (Name × V) → Option ClosureFault
first_fault f es = first_of (map (λ e. f e.0 e.1) es)

parts : (o : Option ClosureFault) (rest : List (Option ClosureFault)) → first_of (o ∷ rest) ≡ None → (o ≡ None) × (first_of rest ≡ None)
parts None rest e = (refl, e)
parts (Some fault) rest e = absurd (none-some fault (sym e))

-- no fault of the list, no fault of a name
pub no_fault : {V : Type 0} (f : Name → V → Option ClosureFault) (es : List (Name × V)) → first_fault f es ≡ None → (q : Name) → fault_in f es q ≡ None
no_fault f [] e q = refl
no_fault f (x ∷ es) e q =
    let p = parts (f x.0 x.1) (map (λ e. f e.0 e.1) es) e in
    by_tie q x.0
    (λ same tied. rw (tied, same) p.0)
    (λ apart. rw apart (no_fault f es p.1 q))

-- the fault is that of the least name with one
pub record IsLeastOf {V : Type 0} (f : Name → V → Option ClosureFault) (es : List (Name × V)) (fault : ClosureFault) : Type 0 where
  pub name : Name
  pub has : fault_in f es name ≡ Some fault
  pub least : (other : Name) → IsSome (fault_in f es other) → name_cmp name other ≢ Greater

-- a name below all of a list is below each that is found there
below_found : {V : Type 0} (x : Name) (es : List (Name × V)) (q : Name) → T (below_all name_cmp x es) → IsSome (find name_cmp q es) → name_cmp x q ≡ Less
below_found x [] q below found = absurd (false≢true found)
below_found x (e ∷ es) q below found =
    by_tie q e.0
    (λ same tied. rw same (less _ (first _ _ below)))
    (λ apart. below_found x es q (second _ _ below) (rw apart at found))

pub found_of : {V : Type 0} (f : Name → V → Option ClosureFault) (es : List (Name × V)) (q : Name) → IsSome (fault_in f es q) → IsSome (find name_cmp q es)
found_of {V} f es q h = go (find name_cmp q es) h
  where
    go : (o : Option V) → IsSome (option_and_then (f q) o) → IsSome o
    go None h = absurd (false≢true h)
    go (Some v) h = refl

pub least_fault : {V : Type 0} (f : Name → V → Option ClosureFault) (es : List (Name × V)) (fault : ClosureFault) → T (is_sorted name_cmp es) → first_fault f es ≡ Some fault → IsLeastOf f es fault
least_fault f [] fault sorted e = absurd (none-some fault e)
least_fault {V} f (x ∷ es) fault sorted e = go (least_fault f es fault (second _ _ sorted)) (f x.0 x.1) refl e
  where
    own : eq_by_cmp name_cmp x.0 x.0 ≡ true
    own = ap is_eq (itself x.0)

    go : (first_fault f es ≡ Some fault → IsLeastOf f es fault) → (o : Option ClosureFault) → f x.0 x.1 ≡ o → first_of (o ∷ map (λ e. f e.0 e.1) es) ≡ Some fault → IsLeastOf f (x ∷ es) fault
    go later (Some here) is e = record {
      name = x.0;
      has = rw own (is ∙ e);
      least = λ other h high. by_tie other x.0
          (λ same tied. absurd (equal_not_greater (sym (itself x.0) ∙ ap (λ n. name_cmp x.0 n) (sym same) ∙ high)))
          (λ apart. absurd (less_not_greater (sym (below_found x.0 es other (first _ _ sorted) (rw apart at (found_of f (x ∷ es) other h))) ∙ high)));
    }
    go later None is e =
        let rest = later e in
        let below = below_found x.0 es rest.name (first _ _ sorted) (found_of f es rest.name (ap is_some rest.has)) in
        record {
          name = rest.name;
          has = by_tie rest.name x.0
              (λ same tied. absurd (equal_not_less (sym (itself x.0) ∙ ap (λ n. name_cmp x.0 n) (sym same) ∙ below)))
              (λ apart. rw apart rest.has);
          least = λ other h. by_tie other x.0
              (λ same tied. absurd (false≢true (sym (ap is_some is) ∙ rw (tied, same) at h)))
              (λ apart. rest.least other (rw apart at h));
        }
