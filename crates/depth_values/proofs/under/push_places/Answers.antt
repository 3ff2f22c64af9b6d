use Rattle.std.proofs.Common.{rules}
use Rattle.std.proofs.lemmas.Iterator.{YieldsList-from_slice, YieldsList-from_map}
use Rattle.std.proofs.lemmas.Iterator.Adapters.{items_from_extend}
use Rattle.area_rings.specs.Edge.{point_of}
use Rattle.depth_values.proofs.under.push_places.Goals as goal

pub returns : goal.returns
returns c =
    let h = items_from_extend c.extend.result c.extend.ensures.ran (YieldsList-from_map _ point_of (YieldsList-from_slice c.args.coords.now cc) c.map.ensures.closure (λ x r q k. search rules)) in
    search rules
