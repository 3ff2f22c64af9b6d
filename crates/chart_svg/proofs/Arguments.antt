-- What stands between an opening and a closing parenthesis.
use Rattle.std.proofs.Common.{◌≡◌, ℕ, ◌+◌, ◌-◌, List, [], ◌∷◌, ◌++◌, length, take, drop, Some, None, true, false, eqb, Bor, sym, ap, ◌∙◌, arith, append_assoc, length-append}
use Rattle.std.proofs.Math.Seq.{take-append_seam, drop-append_seam}
use Rattle.std.proofs.lemmas.Slice.Eq.{bytes_eq-Decides, strip_prefix_is, strip_suffix_is}
use Rattle.std.proofs.lemmas.Bool.Decides.{Decides-eqb}
use Rattle.std.proofs.lemmas.Bool.{cond-true, cond-false, false_from_ne_true}
use Rattle.std.specs.Prelude.{◌≢◌, Option}
use Rattle.std.specs.Option.{MatchOption, option_copied}
use Rattle.std.specs.Cmp.Lexicographic.{pointwise}
use Rattle.std.specs.Str.{bytes_eq}
use Rattle.chart_svg.specs.Instruction.{inner_of, argument_of}

inner-joined : (opening inner : List ℕ) → inner_of (length opening) (opening ++ inner ++ 41 ∷ []) ≡ inner
inner-joined opening inner =
    let front : length (opening ++ inner ++ 41 ∷ []) - 1 ≡ length (opening ++ inner) =
    omega (arith, length-append (opening ++ inner) (41 ∷ [])) in
    ap (λ (n : ℕ). drop (length opening) (take n (opening ++ inner ++ 41 ∷ []))) front
    ∙ ap (drop (length opening)) (take-append_seam (opening ++ inner) (41 ∷ []))
    ∙ drop-append_seam opening inner

-- where the text is the three, the middle one is the argument
pub argument_found : (opening inner text : List ℕ) → text ≡ opening ++ inner ++ 41 ∷ [] → argument_of opening text ≡ Some inner
unfolding argument_of
argument_found opening inner text whole =
    let same : inner_of (length opening) text ≡ inner = ap (inner_of (length opening)) whole ∙ inner-joined opening inner in
    let parts : bytes_eq text (opening ++ inner_of (length opening) text ++ 41 ∷ []) ≡ true =
    (bytes_eq-Decides _ _).1 (whole ∙ ap (λ (l : List ℕ). opening ++ l ++ 41 ∷ []) (sym same)) in
    cond-true _ _ _ parts ∙ ap Some same

-- and else there is none
pub no_argument : (opening text : List ℕ) → ((inner : List ℕ) → text ≢ opening ++ inner ++ 41 ∷ []) → argument_of opening text ≡ None
unfolding argument_of
no_argument opening text none =
    cond-false _ _ _ (false_from_ne_true _ (λ e. none (inner_of (length opening) text) ((bytes_eq-Decides _ _).0 e)))

-- ---- as it is found, from both ends

pub without_opening : (opening text : List ℕ) → pointwise eqb (take (length opening) text) opening ≡ false → None ≡ argument_of opening text
without_opening opening text other =
    let unlike = strip_prefix_is Decides-eqb text opening None other in
    sym (no_argument opening text (λ inner e. unlike (inner ++ 41 ∷ []) (e ∙ append_assoc opening inner (41 ∷ []))))

pub behind_opening : (opening text : List ℕ) (found : Bor (List ℕ))
    → (pointwise eqb (take (length opening) text) opening ≡ true) × (found.now ≡ drop (length opening) text) × (length found.now + length opening ≡ length text)
    → text ≡ opening ++ found.now
behind_opening opening text found is = strip_prefix_is Decides-eqb text opening (Some found) is

without_closing : (opening text rest : List ℕ) → text ≡ opening ++ rest → ((inner : List ℕ) → rest ≢ inner ++ 41 ∷ []) → None ≡ argument_of opening text
without_closing opening text rest whole open_ended =
    sym (no_argument opening text (λ inner e.
    let joined : opening ++ rest ≡ opening ++ (inner ++ 41 ∷ []) = sym whole ∙ e ∙ append_assoc opening inner (41 ∷ []) in
    open_ended inner (sym (drop-append_seam opening rest) ∙ ap (drop (length opening)) joined ∙ drop-append_seam opening (inner ++ 41 ∷ []))))

pub before_closing : (opening text rest : List ℕ) → text ≡ opening ++ rest → (r : Option (Bor (List ℕ)))
    → MatchOption r (pointwise eqb (drop (length rest - 1) rest) (41 ∷ []) ≡ false)
    (λ x. (pointwise eqb (drop (length rest - 1) rest) (41 ∷ []) ≡ true) × (x.now ≡ take (length rest - 1) rest) × (length x.now + 1 ≡ length rest))
    → option_copied r ≡ argument_of opening text
before_closing opening text rest whole None other =
    without_closing opening text rest whole (strip_suffix_is Decides-eqb rest (41 ∷ []) None other)
before_closing opening text rest whole (Some inner) is =
    let closed : rest ≡ inner.now ++ 41 ∷ [] = strip_suffix_is Decides-eqb rest (41 ∷ []) (Some inner) is in
    sym (argument_found opening inner.now text
    (whole ∙ ap (λ (l : List ℕ). opening ++ l) closed ∙ sym (append_assoc opening inner.now (41 ∷ []))))
