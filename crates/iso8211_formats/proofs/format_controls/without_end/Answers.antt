use Rattle.std.proofs.Common.{◌∷◌, []}
use Rattle.std.proofs.lemmas.Bool.Decides.{Decides-eqb}
use Rattle.std.proofs.lemmas.Slice.Eq.{strip_suffix_is}
use Rattle.iso8211_formats.proofs.Cuts.{before_end-stripped}
use Rattle.iso8211_formats.proofs.format_controls.without_end.Goals as goal

pub returns : goal.returns
returns c =
    before_end-stripped c.args.text.now c.strip_suffix.result (strip_suffix_is Decides-eqb c.args.text.now (41 ∷ 30 ∷ []) c.strip_suffix.result c.strip_suffix.ensures.cases)
