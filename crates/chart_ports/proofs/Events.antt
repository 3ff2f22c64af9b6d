-- One more call in a log.
use Rattle.std.proofs.Common.{refl, sym, inl, inr, zero, suc, min, ◌≡◌, ◌+◌, ◌≤◌, ℕ, List, [], ◌∷◌, ◌++◌, length}
use Rattle.std.proofs.Common.{take, drop, ◌∙◌, ap, arith}
use Rattle.std.proofs.lemmas.Bool.{cases_eq}
use Rattle.std.proofs.lemmas.List.{take_all, take-append-le, drop-append-le, length-drop}
use Rattle.chart_ports.specs.Log.{Event, events_of, size_of}
use Rattle.chart_ports.specs.declared.log.Logged.{Logged}

pub size_of_push : (log : List Logged) (logged : Logged) → size_of (log ++ logged ∷ []) ≡ size_of log + logged.size
size_of_push [] logged = omega arith
size_of_push (first ∷ log) logged = omega (arith, size_of_push log logged)

-- its bytes stand behind the others'
pub events_of_push : (log : List Logged) (pool : List ℕ) (logged : Logged) (bytes : List ℕ)
    → size_of log ≡ length pool → logged.size ≡ length bytes
    → events_of (log ++ logged ∷ []) (pool ++ bytes) ≡ events_of log pool ++ (logged.deed, bytes) ∷ []
events_of_push [] [] logged bytes sized size =
    ap (λ (l : List ℕ). (logged.deed, l) ∷ []) (take_all logged.size bytes (omega (arith, size)))
events_of_push [] (byte ∷ pool) logged bytes sized size = absurd (omega (arith, sized))
events_of_push (first ∷ log) pool logged bytes sized size =
    let fits : first.size ≤ length pool = omega (arith, sized) in
    let left : size_of log ≡ length (drop first.size pool) = omega (arith, sized, length-drop first.size pool) in
    let rest = events_of_push log (drop first.size pool) logged bytes left size in
    ap (λ (l : List ℕ). (first.deed, l) ∷ events_of (log ++ logged ∷ []) (drop first.size (pool ++ bytes)))
    (take-append-le first.size pool bytes fits)
    ∙ ap (λ (l : List ℕ). (first.deed, take first.size pool) ∷ events_of (log ++ logged ∷ []) l)
    (drop-append-le first.size pool bytes fits)
    ∙ ap (λ (l : List Event). (first.deed, take first.size pool) ∷ l) rest

-- the front of a log has the first calls
pub events_of_take : (n : ℕ) (log : List Logged) (pool : List ℕ)
    → events_of (take n log) pool ≡ take n (events_of log pool)
events_of_take zero log pool = refl
events_of_take (suc n) [] pool = refl
events_of_take (suc n) (first ∷ log) pool =
    ap (λ (l : List Event). (first.deed, take first.size pool) ∷ l) (events_of_take n log (drop first.size pool))

length_events_of : (log : List Logged) (pool : List ℕ) → length (events_of log pool) ≡ length log
length_events_of [] pool = refl
length_events_of (first ∷ log) pool = ap suc (length_events_of log (drop first.size pool))

-- so many calls, or all where there are fewer
pub events_of_front : (calls count : ℕ) (log : List Logged) (pool : List ℕ) → count ≡ min calls (length log)
    → events_of (take count log) pool ≡ take calls (events_of log pool)
events_of_front calls count log pool is = events_of_take count log pool ∙ elim (cases_eq count calls) [
  | inl same ↦ ap (λ n. take n (events_of log pool)) same
  | inr differs ↦
      let counts = length_events_of log pool in
      let all : length (events_of log pool) ≤ count = omega (arith, is, differs, counts) in
      let beyond : length (events_of log pool) ≤ calls = omega (arith, is, differs, counts) in
      take_all count (events_of log pool) all ∙ sym (take_all calls (events_of log pool) beyond)
]

pub size_of_take : (n : ℕ) (log : List Logged) → size_of (take n log) ≤ size_of log
size_of_take zero log = omega arith
size_of_take (suc n) [] = omega arith
size_of_take (suc n) (first ∷ log) = omega (arith, size_of_take n log)
