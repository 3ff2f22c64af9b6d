-- Lists that gain what has a property.
use Rattle.std.proofs.Common.{◌≡◌, inl, inr, List, [], ◌∷◌, ◌++◌, refl, sym, subst, arith}
use Rattle.std.specs.Prelude.{◌↔◌}
use Rattle.std.specs.List.{Contains, flat_map}
use Rattle.std.proofs.lemmas.List.Elements.{Contains-append_left, Contains-append_right, Contains-append_cases}
use Rattle.route_check.specs.Gains.{Gains}
use Rattle.common_lemmas.proofs.Members.{Has, has_out, has_in, has_either, has_left, has_right}
use Rattle.route_check.proofs.Members.{comes, goes}

module _ {X : Type 0} where
  -- nothing has the property
  pub gains_none : (P : X → Type 0) (xs : List X) → ((x : X) → P x → ⊥) → Gains P xs xs
  gains_none P xs none x = (λ h. inl h, λ h. elim h [ inl a ↦ a | inr p ↦ absurd (none x p) ])

  -- what has it is put behind
  pub gains_list : (P : X → Type 0) (old new more : List X) → new ≡ old ++ more → ((x : X) → Contains more x ↔ P x) → Gains P old new
  gains_list P old new more e all x = (
    λ h. elim (Contains-append_cases old more x (subst (λ (l : List X). Contains l x) e h)) [ inl a ↦ inl a | inr b ↦ inr ((all x).0 b) ],
    λ h. subst (λ (l : List X). Contains l x) (sym e)
        (elim h [ inl a ↦ Contains-append_left old more x a | inr p ↦ Contains-append_right old more x ((all x).1 p) ]),
  )

  -- a property that says the same
  pub gains_same : (P Q : X → Type 0) (old new : List X) → ((x : X) → P x ↔ Q x) → Gains P old new → Gains Q old new
  gains_same P Q old new same gains x = (
    λ h. elim ((gains x).0 h) [ inl a ↦ inl a | inr p ↦ inr ((same x).0 p) ],
    λ h. elim h [ inl a ↦ (gains x).1 (inl a) | inr q ↦ (gains x).1 (inr ((same x).1 q)) ],
  )

  pub nothing : (x : X) → Contains {X = X} [] x → ⊥
  nothing x (k, lt, e) = omega (arith, lt)

  -- ---- walks over a list, of which each element gives something

  -- an element before here gives it
  pub record GivenBy {E : Type 0} (P : E → X → Type 0) (walked : List E) (x : X) : Type 0 where
    pub by : E
    pub among : Has by walked
    pub gives : P by x

  module _ {E : Type 0} (P : E → X → Type 0) where
    -- what is there so far is what the elements before here give
    abbrev pub AreGiven : List E → List X → Type 0
    AreGiven walked xs = (x : X) → Contains xs x ↔ GivenBy P walked x

    pub none_given : AreGiven [] []
    none_given x = (λ h. absurd (nothing x h), λ h. absurd h.among)

    pub next_given : (walked : List E) (e : E) (old new : List X) → AreGiven walked old → Gains (P e) old new → AreGiven (walked ++ e ∷ []) new
    next_given walked e old new before gains x = (
      λ h.
          elim ((gains x).0 h) [
            | inl a ↦
                let g = (before x).0 a in
                record { by = g.by; among = has_left walked (e ∷ []) g.by g.among; gives = g.gives }
            | inr p ↦ record { by = e; among = has_right walked (e ∷ []) e (inl refl); gives = p }
          ],
      λ g.
          (gains x).1
          (elim (has_either walked (e ∷ []) g.by g.among) [
            | inl a ↦ inl ((before x).1 (record { by = g.by; among = a; gives = g.gives }))
            | inr b ↦ inr (last g.by g.gives b)
          ]),
    )
      where
        last : (f : E) → P f x → Has f (e ∷ []) → P e x
        last f p (inl same) = subst (λ (q : E). P q x) (sym same) p
        last f p (inr never) = absurd never

-- what is in a joined list is in one of the lists
pub record IsGivenIn {X A : Type 0} (f : X → List A) (xs : List X) (a : A) : Type 0 where
  pub from : X
  pub among : Contains xs from
  pub gives : Contains (f from) a

pub joined_out : {X A : Type 0} (f : X → List A) (xs : List X) (a : A) → Contains (flat_map f xs) a → IsGivenIn f xs a
joined_out f xs a h =
    let c = comes f xs a (has_out (flat_map f xs) a h) in
    record { from = c.from; among = has_in xs c.from c.among; gives = has_in (f c.from) a c.gives }

pub joined_in : {X A : Type 0} (f : X → List A) (xs : List X) (x : X) (a : A) → Contains xs x → Contains (f x) a → Contains (flat_map f xs) a
joined_in f xs x a h q = has_in (flat_map f xs) a (goes f xs x a (has_out xs x h) (has_out (f x) a q))
