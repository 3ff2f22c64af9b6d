-- What an effect says of the data set and of what is held.
use Rattle.std.proofs.Common.{◌≡◌, ◌+◌, true, false, not, eqb, Option, Some, None, Result, Ok, Err, refl}
use Rattle.std.proofs.Common.{sym, ◌∙◌, subst, inl, inr}
use Rattle.std.proofs.lemmas.Bool.{true≢false, cases_Bool}
use Rattle.common_lemmas.proofs.Choices.{chosen}
use Rattle.chart_model.specs.Dataset.{DatasetValue, IsDataset}
use Rattle.chart_model.specs.declared.state.Held.{Held}
use Rattle.update_sequence.specs.Judged.{is_older, judged_base, judged_update, judged}
use Rattle.update_sequence.specs.declared.effect.Effect.{Effect}
use Rattle.update_sequence.specs.declared.effect.Effect.TheVariants.{Replace, Extend, Cancel}
use Rattle.update_sequence.specs.declared.fault.SequenceFault.{SequenceFault}
use Rattle.update_sequence.specs.declared.fault.SequenceFault.TheVariants.{Edition, Gap, Cancelled, StaleBase}

-- a base file isn't one that cancels
pub stands_by_base : (dataset : DatasetValue) → IsDataset dataset → dataset.base ≡ true → dataset.cancels ≡ false
stands_by_base dataset is base =
    elim (cases_Bool dataset.cancels) [
      | inl cancels ↦ absurd (true≢false (sym base ∙ is.base_stands cancels))
      | inr stands ↦ stands
    ]

-- an update of a cell that is held and not cancelled
pub record SaysExtend (held : Option Held) (dataset : DatasetValue) : Type 0 where
  pub update : dataset.base ≡ false
  pub stands : dataset.cancels ≡ false
  pub here : Held
  pub is : held ≡ Some here
  pub lives : here.cancelled ≡ false

-- one that cancels it
pub record SaysCancel (held : Option Held) (dataset : DatasetValue) : Type 0 where
  pub update : dataset.base ≡ false
  pub cancels : dataset.cancels ≡ true
  pub here : Held
  pub is : held ≡ Some here

abbrev pub Says : Option Held → DatasetValue → Effect → Type 0
Says held dataset Replace = dataset.base ≡ true
Says held dataset Extend = SaysExtend held dataset
Says held dataset Cancel = SaysCancel held dataset

ok_is : {x y : Effect} → ◌≡◌ {A = Result Effect SequenceFault} (Ok x) (Ok y) → x ≡ y
ok_is e = cc

base_says : (held : Option Held) (dataset : DatasetValue) (effect : Effect) → dataset.base ≡ true →
    judged_base held dataset.header ≡ Ok effect → Says held dataset effect
base_says None dataset effect base e = subst (Says None dataset) (ok_is e) base
base_says (Some here) dataset effect base e =
    elim (chosen (is_older dataset.header here) (Err
    (StaleBase here.edition here.update dataset.header.edition dataset.header.update)) (Ok Replace) (Ok effect) e) [
      | inl h ↦ absurd (let f = h.1 in cc)
      | inr h ↦ subst (Says (Some here) dataset) (ok_is h.1) base
    ]

update_says : (held : Option Held) (dataset : DatasetValue) (effect : Effect) → dataset.base ≡ false →
    judged_update held dataset.header dataset.cancels ≡ Ok effect → Says held dataset effect
update_says None dataset effect base e = absurd cc
update_says (Some here) dataset effect base e =
    elim (chosen here.cancelled (Err (Cancelled dataset.header.key)) _ (Ok effect) e) [
      | inl h ↦ absurd (let f = h.1 in cc)
      | inr h ↦
          elim (chosen dataset.cancels (Ok Cancel) _ (Ok effect) h.1) [
            | inl k ↦ subst (Says (Some here) dataset) (ok_is k.1) (record
                { update = base; cancels = k.0; here = here; is = refl })
            | inr k ↦
                elim (chosen (not (eqb dataset.header.edition here.edition))
                (Err (Edition here.edition dataset.header.edition)) _ (Ok effect) k.1) [
                  | inl l ↦ absurd (let f = l.1 in cc)
                  | inr l ↦
                      elim (chosen (not (eqb dataset.header.update (here.update + 1)))
                      (Err (Gap (here.update + 1) dataset.header.update)) (Ok Extend) (Ok effect) l.1) [
                        | inl m ↦ absurd (let f = m.1 in cc)
                        | inr m ↦ subst (Says (Some here) dataset) (ok_is m.1)
                            (record { update = base; stands = k.0; here = here; is = refl; lives = h.0 })
                      ]
                ]
          ]
    ]

pub effect_says : (held : Option Held) (dataset : DatasetValue) (effect : Effect) →
    judged held dataset ≡ Ok effect → Says held dataset effect
unfolding judged
effect_says held dataset effect e =
    elim (chosen dataset.base (judged_base held dataset.header) (judged_update held dataset.header dataset.cancels)
    (Ok effect) e) [
      | inl h ↦ base_says held dataset effect h.0 h.1
      | inr h ↦ update_says held dataset effect h.0 h.1
    ]
