-- Frames at tops ranked one by one.
use Rattle.std.proofs.Common.{◌≡◌, ℕ, ◌+◌, ◌<◌, Bool, List, [], ◌∷◌, length, take, map, get_or, ap, ◌∙◌}
use Rattle.std.specs.Prelude.{fold}
use Rattle.std.proofs.lemmas.List.{map_more}
use Rattle.std.proofs.lemmas.List.Sums.{fold-append}
use Rattle.pdh_readings.specs.declared.bit_order.BitOrder.{BitOrder}
use Rattle.pdh_looking.specs.declared.nearest.Nearest.{Nearest}
use Rattle.pdh_looking.specs.declared.top.Top.{Top}
use Rattle.pdh_looking.specs.Nearest.{ranked, near}

-- one order more
pub ranked_more : (line : BitOrder → List Bool) (top : Top) (start : List Nearest) (orders : List BitOrder) (n : ℕ) (default : BitOrder) → n < length orders
    → fold ranked start (map (near line top) (take (n + 1) orders)) ≡ ranked (fold ranked start (map (near line top) (take n orders))) (near line top (get_or orders n default))
ranked_more line top start orders n default inside =
    ap (fold ranked start) (map_more (near line top) orders n default inside)
    ∙ fold-append ranked start (map (near line top) (take n orders)) (near line top (get_or orders n default) ∷ [])
