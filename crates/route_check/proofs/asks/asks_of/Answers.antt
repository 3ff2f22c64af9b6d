use Rattle.std.proofs.lemmas.List.Sorted.{Contains-permutation, IsPermutation-sym}
use Rattle.route_check.proofs.asks.asks_of.Goals as goal

pub returns : goal.returns
returns c =
    let asks = c.in_ok-asks.asks.items in
    let sorted = c.sort_unstable_by_key.new.self.items in
    let moved = c.sort_unstable_by_key.ensures.permutation in
    λ ask. (
      λ h. (c.in_ok-asks.ensures ask).0 (Contains-permutation sorted asks ask (IsPermutation-sym asks sorted moved) h),
      λ is. Contains-permutation asks sorted ask moved ((c.in_ok-asks.ensures ask).1 is),
    )
