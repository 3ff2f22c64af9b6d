-- A file that is taken over follows those that are kept.
use Rattle.std.proofs.Common.{◌≡◌, true, Option, IfSome, subst}
use Rattle.std.specs.Option.{option_copied}
use Rattle.chart_model.specs.declared.state.Holding.{Holding}
use Rattle.update_sequence.specs.Sequence.{is_in_order}
use Rattle.chart_store.specs.declared.made.Made.{Made}
use Rattle.chart_store.specs.Following.{LeavesBehind}
use Rattle.chart_store.specs.Loaded.{files_of}
use Rattle.chart_store.proofs.Following.{kept-with}
use Rattle.chart_store.proofs.Loading.{Laws}
use Rattle.chart_store.proofs.rollback.kept_with_data_set.Goals as goal

pub returns-clause-some : goal.returns-clause-some
returns-clause-some c =
    let laws : Laws = record { none = c.one_file_more.ensures.none; follow = c.accepted_files_follow.ensures } in
    let order = c.is_in_order.ensures.0 c.if-not-is_in_order.false in
    let in_order : is_in_order c.args.dataset.base (files_of c.args.kept) ≡ true =
    subst (λ (o : Option Holding). is_in_order c.args.dataset.base (files_of o) ≡ true) c.as_ref.ensures.value order.1 in
    let leaves = subst (λ (o : Option Made). IfSome o (λ made.
    LeavesBehind (option_copied c.as_ref-2.result) c.args.dataset made.held made.chart)) c.in-Some.is c.in_ok-made.ensures.made in
    kept-with laws c.args.key c.args.kept c.args.file.now c.args.dataset c.requires.kept c.requires.reads c.requires.short
    order.0 in_order c.in-Some.made.held c.in-Some.made.chart
    (subst (λ (o : Option Holding). LeavesBehind o c.args.dataset c.in-Some.made.held c.in-Some.made.chart)
    c.as_ref-2.ensures.value leaves)
    c.in_ok-with_file.field-0 c.in_ok-with_file.ensures.held c.in_ok-with_file.ensures.chart c.in_ok-with_file.ensures.files
