-- Charts that are being built.
use Rattle.std.proofs.Common.{◌≡◌, ◌≢◌, ℕ, ◌+◌, ◌≤◌, List, [], ◌∷◌, ◌++◌, length, get_or, take, drop, Option, None}
use Rattle.std.proofs.Common.{Result, Ok, Err}
use Rattle.std.proofs.Common.{refl, sym, ◌∙◌, ap, subst, arith, add-zero, zero-add, add_assoc, length-drop}
use Rattle.std.proofs.Common.{take-append-drop}
use Rattle.std.proofs.Math.Seq.{take-add}
use Rattle.std.proofs.lemmas.List.{drop-drop}
use Rattle.std.specs.Option.{option_map}
use Rattle.chart_model.specs.Answers.{unless, ◌>>=◌}
use Rattle.chart_model.specs.Cell.{CellValue}
use Rattle.chart_model.specs.Change.{Change}
use Rattle.chart_model.specs.Memory.{Fails}
use Rattle.chart_closure.specs.Closed.{closure_fault}
use Rattle.update_apply.specs.Changed.{cell_after}
use Rattle.update_apply.specs.Fault.{Judges, fault_of, held_under}
use Rattle.update_apply.specs.Moves.{cost_of}
use Rattle.update_apply.specs.declared.fault.ChangeFault.{ChangeFault}
use Rattle.update_sequence.specs.Answers.{fault_of_change}
use Rattle.update_sequence.specs.Built.{folded, folded_after}
use Rattle.update_sequence.specs.Draft.{Advances, DraftValue, finished}
use Rattle.update_sequence.specs.Moves.{moves_of}
use Rattle.update_sequence.specs.declared.fault.BuildFault.{BuildFault}
use Rattle.update_sequence.specs.declared.fault.BuildFault.TheVariants as of_build
use Rattle.update_sequence.proofs.Charts.{bind-ok, unless-ok}
use Rattle.update_sequence.proofs.DataSets.{ok_is}
use Rattle.update_sequence.proofs.Folding.{folded-one, folded-append, folded-refused}

-- what changes that can be made may move, and those behind them
pub moves_of-append : (cell after : CellValue) (first rest : List Change) → folded cell first ≡ Ok after →
    moves_of cell (first ++ rest) ≡ moves_of cell first + moves_of after rest
unfolding folded
moves_of-append cell after [] rest e =
    ap (λ (x : CellValue). moves_of x rest) (ok_is e) ∙ sym (zero-add (moves_of after rest))
moves_of-append cell after (change ∷ first) rest e =
    let b = bind-ok (unless (option_map of_build.Change (fault_of cell change)) (cell_after cell change)) _ after e in
    let u = unless-ok of_build.Change (fault_of cell change) (cell_after cell change) b.0 b.1 in
    let cost : ℕ = cost_of (held_under cell change.target) change in
    ap (λ (n : ℕ). cost + n) (moves_of-append (cell_after cell change) after first rest
    (ap (λ (x : CellValue). folded x first) u.1 ∙ b.2))
    ∙ sym (add_assoc cost (moves_of (cell_after cell change) first) (moves_of after rest))

-- ---- drafts that advance

-- what is left makes of the chart what all made of it
pub folded-advanced : (before after : DraftValue) (made : ℕ) → Advances before after made →
    folded after.cell after.rest ≡ folded before.cell before.rest
folded-advanced before after made h =
    ap (folded after.cell) h.rest
    ∙ sym (ap (λ (r : Result CellValue BuildFault). folded_after r (drop made before.rest)) h.chart)
    ∙ sym (folded-append before.cell (take made before.rest) (drop made before.rest))
    ∙ ap (folded before.cell) (take-append-drop made before.rest)

pub finished-advanced : (before after : DraftValue) (made : ℕ) → Advances before after made →
    finished after ≡ finished before
unfolding finished
finished-advanced before after made h =
    ap (λ (r : Result CellValue BuildFault).
    r >>= (λ cell. unless (option_map of_build.Closure (closure_fault cell)) cell))
    (folded-advanced before after made h)

pub moves-advanced : (before after : DraftValue) (made : ℕ) → Advances before after made →
    moves_of before.cell before.rest + after.moves ≡ moves_of after.cell after.rest + before.moves
moves-advanced before after made h =
    let all : moves_of before.cell before.rest
    ≡ moves_of before.cell (take made before.rest) + moves_of after.cell (drop made before.rest) =
    ap (moves_of before.cell) (sym (take-append-drop made before.rest))
    ∙ moves_of-append before.cell after.cell (take made before.rest) (drop made before.rest) h.chart in
    let left : moves_of after.cell after.rest ≡ moves_of after.cell (drop made before.rest) =
    ap (moves_of after.cell) h.rest in
    omega (arith, all, left, h.moves)

pub advances-none : (draft : DraftValue) → Advances draft draft 0
unfolding folded
advances-none draft =
    record { within = omega arith; chart = refl; rest = refl; moves = sym (add-zero draft.moves) }

pub advances-turn : (first second third : DraftValue) (made more : ℕ) → Advances first second made →
    Advances second third more → Advances first third (made + more)
advances-turn first second third made more one two = record {
  within = omega (arith, one.within, two.within, ap length one.rest, length-drop made first.rest);
  chart =
      ap (folded first.cell) parts
      ∙ folded-append first.cell (take made first.rest) (take more (drop made first.rest))
      ∙ ap (λ (r : Result CellValue BuildFault). folded_after r (take more (drop made first.rest))) one.chart
      ∙ ap (λ (l : List Change). folded second.cell (take more l)) (sym one.rest)
      ∙ two.chart;
  rest = two.rest ∙ ap (drop more) one.rest ∙ drop-drop more made first.rest;
  moves = omega (arith, one.moves, two.moves, moved);
}
  where
    parts : take (made + more) first.rest ≡ take made first.rest ++ take more (drop made first.rest)
    parts = take-add made more first.rest

    moved : moves_of first.cell (take (made + more) first.rest)
        ≡ moves_of first.cell (take made first.rest) + moves_of second.cell (take more second.rest)
    moved =
        ap (moves_of first.cell) parts
        ∙ moves_of-append first.cell second.cell (take made first.rest) (take more (drop made first.rest)) one.chart
        ∙ ap (λ (l : List Change). moves_of first.cell (take made first.rest) + moves_of second.cell (take more l))
        (sym one.rest)

-- ---- one change

-- the item that is looked at first is the one that is taken out
pub first-item : {A : Type 0} (xs rest : List A) (x y : A) → x ≡ get_or xs 0 x → xs ≡ y ∷ rest → x ≡ y
first-item xs rest x y seen e = seen ∙ ap (λ l. get_or l 0 x) e

-- and has no fault where the one that is looked at has none
pub first-passes : (cell : CellValue) (changes rest : List Change) (seen change : Change) →
    seen ≡ get_or changes 0 seen → changes ≡ change ∷ rest → fault_of cell seen ≡ None → None ≡ fault_of cell change
first-passes cell changes rest seen change there e passes =
    sym passes ∙ ap (fault_of cell) (first-item changes rest seen change there e)

pub advances-one : (before after : DraftValue) (change : Change) (rest : List Change) →
    before.rest ≡ change ∷ rest → None ≡ fault_of before.cell change → after.cell ≡ cell_after before.cell change →
    after.rest ≡ rest → before.moves ≡ after.moves + cost_of (held_under before.cell change.target) change →
    Advances before after 1
advances-one before after change rest e none made left spent = record {
  within = subst (λ (l : List Change). 1 ≤ length l) (sym e) (omega arith);
  chart =
      ap (λ (l : List Change). folded before.cell (take 1 l)) e
      ∙ folded-one before.cell change
      ∙ ap (λ (fault : Option ChangeFault). unless (option_map of_build.Change fault) (cell_after before.cell change))
      (sym none)
      ∙ ap Ok (sym made);
  rest = left ∙ sym (ap (drop 1) e);
  moves = spent ∙ ap (λ (n : ℕ). after.moves + n)
      (sym (ap (λ (l : List Change). moves_of before.cell (take 1 l)) e
      ∙ add-zero (cost_of (held_under before.cell change.target) change)));
}

-- a list begins with the item that is seen first
pub begins-with : {A : Type 0} (xs : List A) (x : A) → xs ≢ [] → x ≡ get_or xs 0 x → xs ≡ x ∷ drop 1 xs
begins-with [] x some seen = absurd (some refl)
begins-with (y ∷ ys) x some seen = ap (λ z. z ∷ ys) (sym seen)

-- a change that is refused is the first that is left
pub refused-one : (cell : CellValue) (changes rest : List Change) (change : Change) (fault : ChangeFault) →
    changes ≡ change ∷ rest → Judges (Err fault) (fault_of cell change) →
    Fails of_build.NoMemory (fault_of_change fault) (folded cell (take 1 changes))
refused-one cell changes rest change fault e found =
    subst (λ (l : List Change). Fails of_build.NoMemory (fault_of_change fault) (folded cell (take 1 l))) (sym e)
    (folded-refused cell change [] fault found)
