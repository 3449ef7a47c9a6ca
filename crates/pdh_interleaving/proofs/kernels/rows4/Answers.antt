use Rattle.std.proofs.Common.{◌≡◌, ◌-◌, ◌/◌, ◌%◌, map, refl, ◌∙◌}
use Rattle.std.specs.List.{range_with_len}
use Rattle.pdh_interleaving.proofs.SwapLaws.{Spot, spot, third, second, third_law, second_law, four_rows}
use Rattle.pdh_interleaving.proofs.kernels.rows4.Goals as goal

-- the spot whose bit comes to a spot
abbrev from : Spot → Spot
from p = third 2 3689348814741910323 (third 8 71777214294589695 (third 32 4294967295 (second 1 6148914691236517205 (second 4 1085102592571150095 (second 16 281470681808895 p)))))

places : map (λ q. from (spot (q / 64) (63 - q % 64))) (range_with_len 0 256) ≡ map (λ q. spot (q % 4) (63 - q / 4)) (range_with_len 0 256)
places = refl

pub returns : goal.returns
returns c j i who within =
    four_rows c.args.a c.args.b c.args.c c.args.d c.swap-a6.result.0 c.swap-a6.result.1 c.swap-c6.result.0 c.swap-c6.result.1 from
    (λ p.
    second_law 16 281470681808895 c.swap-a5.result.0 c.swap-a5.result.1 c.swap-c5.result.0 c.swap-c5.result.1 c.swap-a6.result.0 c.swap-a6.result.1 c.swap-c6.result.0 c.swap-c6.result.1 c.swap-a6.ensures.high c.swap-a6.ensures.low c.swap-c6.ensures.high c.swap-c6.ensures.low p
    ∙ second_law 4 1085102592571150095 c.swap-a4.result.0 c.swap-a4.result.1 c.swap-c4.result.0 c.swap-c4.result.1 c.swap-a5.result.0 c.swap-a5.result.1 c.swap-c5.result.0 c.swap-c5.result.1 c.swap-a5.ensures.high c.swap-a5.ensures.low c.swap-c5.ensures.high c.swap-c5.ensures.low (second 16 281470681808895 p)
    ∙ second_law 1 6148914691236517205 c.swap-a3.result.0 c.swap-b3.result.0 c.swap-a3.result.1 c.swap-b3.result.1 c.swap-a4.result.0 c.swap-a4.result.1 c.swap-c4.result.0 c.swap-c4.result.1 c.swap-a4.ensures.high c.swap-a4.ensures.low c.swap-c4.ensures.high c.swap-c4.ensures.low (second 4 1085102592571150095 (second 16 281470681808895 p))
    ∙ third_law 32 4294967295 c.swap-a2.result.0 c.swap-b2.result.0 c.swap-a2.result.1 c.swap-b2.result.1 c.swap-a3.result.0 c.swap-b3.result.0 c.swap-a3.result.1 c.swap-b3.result.1 c.swap-a3.ensures.high c.swap-a3.ensures.low c.swap-b3.ensures.high c.swap-b3.ensures.low (second 1 6148914691236517205 (second 4 1085102592571150095 (second 16 281470681808895 p)))
    ∙ third_law 8 71777214294589695 c.swap-a1.result.0 c.swap-b1.result.0 c.swap-a1.result.1 c.swap-b1.result.1 c.swap-a2.result.0 c.swap-b2.result.0 c.swap-a2.result.1 c.swap-b2.result.1 c.swap-a2.ensures.high c.swap-a2.ensures.low c.swap-b2.ensures.high c.swap-b2.ensures.low (third 32 4294967295 (second 1 6148914691236517205 (second 4 1085102592571150095 (second 16 281470681808895 p))))
    ∙ third_law 2 3689348814741910323 c.args.a c.args.b c.args.c c.args.d c.swap-a1.result.0 c.swap-b1.result.0 c.swap-a1.result.1 c.swap-b1.result.1 c.swap-a1.ensures.high c.swap-a1.ensures.low c.swap-b1.ensures.high c.swap-b1.ensures.low (third 8 71777214294589695 (third 32 4294967295 (second 1 6148914691236517205 (second 4 1085102592571150095 (second 16 281470681808895 p))))))
    places j i who within
