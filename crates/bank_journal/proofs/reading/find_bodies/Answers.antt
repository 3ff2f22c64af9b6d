use Rattle.std.proofs.Common.{◌≡◌, ◌+◌, ℕ, List, [], ◌∷◌, ◌++◌, length, map, drop, sym, ap, ◌∙◌, subst}
use Rattle.std.specs.List.{All, sum_by}
use Rattle.std.proofs.lemmas.List.{map_push, take_rest}
use Rattle.std.proofs.lemmas.List.Elements.{All-push}
use Rattle.bank_journal.specs.declared.content.Span.{Span}
use Rattle.bank_journal.specs.Parts.{part_of, IsWithin}
use Rattle.bank_journal.specs.Reading.{behind_bodies, bodies_in}
use Rattle.bank_journal.proofs.Walk.{walk_cut, walk_end, walk_inside, walk_on, walk_place, walk_within}
use Rattle.bank_journal.proofs.reading.find_bodies.Goals as goal

pub returns-in_default-clause-fault : goal.returns-in_default-clause-fault
returns-in_default-clause-fault c =
    let walk = c.loop-at.invariant in
    walk_cut _ _ _ _ _ walk.inside (take_rest c.args.bytes.now (c.loop-at.at + 1)) walk.joined c.loop-at-test.true
    c.in_default.ensures.none

pub loop-at-preserved : goal.loop-at-preserved
loop-at-preserved c =
    let bytes : List ℕ = c.args.bytes.now in
    let at = c.loop-at.at in
    let size = c.in-Some.size in
    let walk = c.loop-at.invariant in
    let found = c.in-Some.ensures in
    let behind = take_rest bytes (at + 1) in
    let opened = c.loop-at-test.true in
    let spans : List Span = c.loop-at.bodies.items in
    let span : Span = record { from = at + 5; to = at + 5 + size } in
    let pushed : c.push.new.self.items ≡ spans ++ span ∷ [] = c.in_ok-push.ensures.items in
    let parts : map (part_of bytes) c.push.new.self.items ≡ map (part_of bytes) spans ++ part_of bytes span ∷ [] =
    ap (map (part_of bytes)) pushed ∙ map_push (part_of bytes) spans span in
    record {
      inside = walk_inside _ _ _ _ _ walk.inside behind walk.joined size opened found.fits found.counted;
      within = subst (All (IsWithin (length bytes))) (sym pushed) (All-push (IsWithin (length bytes)) spans span
          walk.within (walk_within _ _ _ _ _ walk.inside behind walk.joined size opened found.fits found.counted));
      place = walk_place _ _ _ _ _ walk.inside behind walk.joined size opened found.fits found.counted walk.place
          ∙ ap (λ (bodies : List (List ℕ)). c.args.first + sum_by (λ body. 5 + length body) bodies) (sym parts);
      joined = subst (λ (bodies : List (List ℕ)). bodies_in 0 (drop c.args.first bytes) ≡ behind_bodies bodies
          (bodies_in 0 (drop (at + 5 + size) bytes))) (sym parts)
          (walk_on _ _ _ _ _ walk.inside behind walk.joined size opened found.fits found.counted);
    }

pub returns-clause-bodies : goal.returns-clause-bodies
returns-clause-bodies c =
    let walk = c.loop-at.invariant in
    walk_end _ _ _ _ _ walk.inside (take_rest c.args.bytes.now (c.loop-at.at + 1)) walk.joined c.loop-at-test.false
