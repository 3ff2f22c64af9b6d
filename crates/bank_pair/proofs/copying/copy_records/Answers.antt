use Rattle.std.proofs.Common.{◌≡◌, ◌<◌, ℕ, List, [], length, get_or, ◌∙◌, ap, arith, rules}
use Rattle.std.proofs.lemmas.List.{get_or_read}
use Rattle.std.proofs.lemmas.List.Sums.{sum_by_more}
use Rattle.bank_pair.proofs.Copied.{closed_end, copied_all, copied_more, length-closed_end, length-copied}
use Rattle.bank_pair.proofs.copying.copy_records.Goals as goal

pub loop-framed-init : goal.loop-framed-init
loop-framed-init g c =
    record {
      place = omega arith;
      ends = λ tells. length-closed_end c.args.end _ _ (c.requires.ends tells) (c.in_ok-write_at.ensures.written tells);
      copied = λ tells bodies are. c.in_ok-write_at.ensures.written tells
          ∙ closed_end c.args.end _ (c.requires.ends tells);
      others = search rules;
      crash_others = search rules;
      said = search rules;
      moments = search rules;
      later = search rules;
    }

pub loop-framed-preserved : goal.loop-framed-preserved
loop-framed-preserved g c =
    let walk = c.loop-framed.invariant in
    let frames = c.args.frames.now in
    let index = c.loop-framed.framed-index in
    let size : List ℕ → ℕ = λ frame. length frame in
    let inside : index < length frames = omega arith in
    let frame_is : c.as_slice-frame.result.now ≡ get_or frames index [] =
    c.as_slice-frame.ensures ∙ get_or_read frames index c.framed-item.result inside c.framed-item.is [] in
    record {
      place = omega (arith, walk.place, ap size frame_is, sum_by_more size frames index [] inside);
      ends = λ tells. length-copied _ _ c.as_slice-frame.result.now c.loop-framed.gate (walk.ends tells)
          (c.in_ok-copy_record.ensures.copied tells);
      copied = λ tells bodies are. copied_more _ _ _ c.as_slice-frame.result.now frames bodies index c.loop-framed.gate
          are inside frame_is (walk.ends tells) (walk.copied tells bodies are)
          (c.in_ok-copy_record.ensures.copied tells);
      others = search rules;
      crash_others = search rules;
      said = search rules;
      moments = search rules;
      later = search rules;
    }

pub returns-clause-copied : goal.returns-clause-copied
returns-clause-copied g c = λ tells bodies are.
    copied_all _ _ c.args.frames.now bodies c.loop-framed.framed-index are (omega arith)
    (c.loop-framed.invariant.copied tells bodies are)
