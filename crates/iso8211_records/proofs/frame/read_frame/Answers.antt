use Rattle.std.proofs.lemmas.Result.{err_from_is_err_and}
use Rattle.iso8211_leader.specs.Leader.{frame}
use Rattle.iso8211_records.proofs.Framing.{leader_at-none, leader_at-some, record_at-leader, record_at-directory, record_at-spans, record_at-ends, record_at-all, spans_at-whole, spans_at-inside}
use Rattle.iso8211_records.proofs.frame.read_frame.Goals as goal

pub returns-in-Err-clause-read : goal.returns-in-Err-clause-read
returns-in-Err-clause-read c = λ _. record_at-leader _ _ _ _ _ (leader_at-none _ _ _ c.in-Err.ensures.refused)

pub returns-in_err-read_directory-clause-read : goal.returns-in_err-read_directory-clause-read
returns-in_err-read_directory-clause-read c =
    let p = err_from_is_err_and c.from_residual.result c.from_residual.ensures.1 in
    rw (p.1, p.2) (λ differs. record_at-directory _ _ _ _ _ (frame c.in-Ok.leader) (leader_at-some _ _ _ _ c.in-Ok.ensures.leader c.in-Ok.ensures.numbers) (c.in_err-read_directory.ensures.read differs))

pub returns-in_err-check_spans-clause-read : goal.returns-in_err-check_spans-clause-read
returns-in_err-check_spans-clause-read c =
    let p = err_from_is_err_and c.from_residual-in_err-check_spans.result c.from_residual-in_err-check_spans.ensures.1 in
    rw (p.1, p.2) (λ differs. record_at-spans _ _ _ _ _ (frame c.in-Ok.leader) _ (leader_at-some _ _ _ _ c.in-Ok.ensures.leader c.in-Ok.ensures.numbers) c.in_ok-read_directory.ensures.read
    ((rw c.as_slice.ensures.value at c.in_err-check_spans.ensures.checked) differs))

pub check_ends-requires-clause-whole : goal.check_ends-requires-clause-whole
check_ends-requires-clause-whole c = spans_at-whole c.args.at (frame c.in-Ok.leader) _ _ c.in_ok-check_spans.ensures.checked

pub check_ends-requires-clause-inside : goal.check_ends-requires-clause-inside
check_ends-requires-clause-inside c =
    rw c.as_slice-2.ensures.value (spans_at-inside c.args.at _ c.args.bytes.now _ (rw c.as_slice.ensures.value at c.in_ok-check_spans.ensures.checked))

pub returns-in_err-check_ends-clause-read : goal.returns-in_err-check_ends-clause-read
returns-in_err-check_ends-clause-read c =
    let p = err_from_is_err_and c.from_residual-in_err-check_ends.result c.from_residual-in_err-check_ends.ensures.1 in
    rw (p.1, p.2) (λ differs. record_at-ends _ _ _ _ _ (frame c.in-Ok.leader) _ (leader_at-some _ _ _ _ c.in-Ok.ensures.leader c.in-Ok.ensures.numbers) c.in_ok-read_directory.ensures.read
    (rw c.as_slice.ensures.value at c.in_ok-check_spans.ensures.checked)
    ((rw c.as_slice-2.ensures.value at c.in_err-check_ends.ensures.checked) differs))

pub returns-clause-read : goal.returns-clause-read
returns-clause-read c =
    record_at-all _ _ _ _ (frame c.in-Ok.leader) _ (leader_at-some _ _ _ _ c.in-Ok.ensures.leader c.in-Ok.ensures.numbers) c.in_ok-read_directory.ensures.read
    (rw c.as_slice.ensures.value at c.in_ok-check_spans.ensures.checked)
    (rw c.as_slice-2.ensures.value at c.in_ok-check_ends.ensures.checked)

pub returns-clause-whole : goal.returns-clause-whole
returns-clause-whole c = spans_at-whole c.args.at (frame c.in-Ok.leader) _ _ c.in_ok-check_spans.ensures.checked

pub returns-clause-inside : goal.returns-clause-inside
returns-clause-inside c = spans_at-inside c.args.at _ c.args.bytes.now _ (rw c.as_slice.ensures.value at c.in_ok-check_spans.ensures.checked)
