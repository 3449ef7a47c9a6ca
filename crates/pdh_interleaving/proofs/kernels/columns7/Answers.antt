use Rattle.std.proofs.Common.{◌≡◌, ℕ, zero, suc, ◌+◌, ◌-◌, ◌*◌, ◌/◌, ◌%◌, ◌<◌, map, get_or, [], ◌∷◌, refl, ◌∙◌, arith}
use Rattle.std.specs.List.{range_with_len}
use Rattle.pdh_bits.specs.Bits.{bit}
use Rattle.pdh_interleaving.proofs.SwapLaws.{Spot, spot}
use Rattle.pdh_interleaving.proofs.EightLaws.{by_four, by_two, by_one, by_four_law, by_two_law, by_one_law, eight_columns, bit_of_eight}
use Rattle.pdh_interleaving.proofs.kernels.columns7.Goals as goal

-- the spot whose bit comes to a spot
abbrev from : Spot → Spot
from p = by_four 32 4294967295 (by_four 4 1085102592571150095 (by_two 16 281470681808895 (by_two 2 3689348814741910323 (by_one 8 71777214294589695 (by_one 1 6148914691236517205 p)))))

places : map (λ q. from (spot (q / 64) (63 - q % 64))) (range_with_len 0 448) ≡ map (λ q. spot (q % 64 / 8) (63 - (q % 64 % 8 * 8 + q / 64))) (range_with_len 0 448)
places = refl

-- seven of eight numbers
seven : (a b c d e f g h j k : ℕ) → j < 7 → bit (get_or (a ∷ b ∷ c ∷ d ∷ e ∷ f ∷ g ∷ []) j 0) k ≡ bit_of_eight a b c d e f g h (spot j k)
seven a b c d e f g h zero k few = refl
seven a b c d e f g h (suc zero) k few = refl
seven a b c d e f g h (suc (suc zero)) k few = refl
seven a b c d e f g h (suc (suc (suc zero))) k few = refl
seven a b c d e f g h (suc (suc (suc (suc zero)))) k few = refl
seven a b c d e f g h (suc (suc (suc (suc (suc zero))))) k few = refl
seven a b c d e f g h (suc (suc (suc (suc (suc (suc zero)))))) k few = refl
seven a b c d e f g h (suc (suc (suc (suc (suc (suc (suc j))))))) k few = absurd (omega (arith, few))

pub returns : goal.returns
returns c j i who within =
    seven c.swap-a6.result.0 c.swap-a6.result.1 c.swap-c6.result.0 c.swap-c6.result.1 c.swap-e6.result.0 c.swap-e6.result.1 c.swap-g6.result.0 c.swap-g6.result.1 j (63 - i) who
    ∙ eight_columns c.args.a c.args.b c.args.c c.args.d c.args.e c.args.f c.args.g c.args.h c.swap-a6.result.0 c.swap-a6.result.1 c.swap-c6.result.0 c.swap-c6.result.1 c.swap-e6.result.0 c.swap-e6.result.1 c.swap-g6.result.0 c.swap-g6.result.1 from
    (λ p.
    by_one_law 1 6148914691236517205 c.swap-a5.result.0 c.swap-a5.result.1 c.swap-c5.result.0 c.swap-c5.result.1 c.swap-e5.result.0 c.swap-e5.result.1 c.swap-g5.result.0 c.swap-g5.result.1 c.swap-a6.result.0 c.swap-a6.result.1 c.swap-c6.result.0 c.swap-c6.result.1 c.swap-e6.result.0 c.swap-e6.result.1 c.swap-g6.result.0 c.swap-g6.result.1 c.swap-a6.ensures.high c.swap-a6.ensures.low c.swap-c6.ensures.high c.swap-c6.ensures.low c.swap-e6.ensures.high c.swap-e6.ensures.low c.swap-g6.ensures.high c.swap-g6.ensures.low p
    ∙ by_one_law 8 71777214294589695 c.swap-a4.result.0 c.swap-b4.result.0 c.swap-a4.result.1 c.swap-b4.result.1 c.swap-e4.result.0 c.swap-f4.result.0 c.swap-e4.result.1 c.swap-f4.result.1 c.swap-a5.result.0 c.swap-a5.result.1 c.swap-c5.result.0 c.swap-c5.result.1 c.swap-e5.result.0 c.swap-e5.result.1 c.swap-g5.result.0 c.swap-g5.result.1 c.swap-a5.ensures.high c.swap-a5.ensures.low c.swap-c5.ensures.high c.swap-c5.ensures.low c.swap-e5.ensures.high c.swap-e5.ensures.low c.swap-g5.ensures.high c.swap-g5.ensures.low (by_one 1 6148914691236517205 p)
    ∙ by_two_law 2 3689348814741910323 c.swap-a3.result.0 c.swap-b3.result.0 c.swap-a3.result.1 c.swap-b3.result.1 c.swap-e3.result.0 c.swap-f3.result.0 c.swap-e3.result.1 c.swap-f3.result.1 c.swap-a4.result.0 c.swap-b4.result.0 c.swap-a4.result.1 c.swap-b4.result.1 c.swap-e4.result.0 c.swap-f4.result.0 c.swap-e4.result.1 c.swap-f4.result.1 c.swap-a4.ensures.high c.swap-a4.ensures.low c.swap-b4.ensures.high c.swap-b4.ensures.low c.swap-e4.ensures.high c.swap-e4.ensures.low c.swap-f4.ensures.high c.swap-f4.ensures.low (by_one 8 71777214294589695 (by_one 1 6148914691236517205 p))
    ∙ by_two_law 16 281470681808895 c.swap-a2.result.0 c.swap-b2.result.0 c.swap-c2.result.0 c.swap-d2.result.0 c.swap-a2.result.1 c.swap-b2.result.1 c.swap-c2.result.1 c.swap-d2.result.1 c.swap-a3.result.0 c.swap-b3.result.0 c.swap-a3.result.1 c.swap-b3.result.1 c.swap-e3.result.0 c.swap-f3.result.0 c.swap-e3.result.1 c.swap-f3.result.1 c.swap-a3.ensures.high c.swap-a3.ensures.low c.swap-b3.ensures.high c.swap-b3.ensures.low c.swap-e3.ensures.high c.swap-e3.ensures.low c.swap-f3.ensures.high c.swap-f3.ensures.low (by_two 2 3689348814741910323 (by_one 8 71777214294589695 (by_one 1 6148914691236517205 p)))
    ∙ by_four_law 4 1085102592571150095 c.swap-a1.result.0 c.swap-b1.result.0 c.swap-c1.result.0 c.swap-d1.result.0 c.swap-a1.result.1 c.swap-b1.result.1 c.swap-c1.result.1 c.swap-d1.result.1 c.swap-a2.result.0 c.swap-b2.result.0 c.swap-c2.result.0 c.swap-d2.result.0 c.swap-a2.result.1 c.swap-b2.result.1 c.swap-c2.result.1 c.swap-d2.result.1 c.swap-a2.ensures.high c.swap-a2.ensures.low c.swap-b2.ensures.high c.swap-b2.ensures.low c.swap-c2.ensures.high c.swap-c2.ensures.low c.swap-d2.ensures.high c.swap-d2.ensures.low (by_two 16 281470681808895 (by_two 2 3689348814741910323 (by_one 8 71777214294589695 (by_one 1 6148914691236517205 p))))
    ∙ by_four_law 32 4294967295 c.args.a c.args.b c.args.c c.args.d c.args.e c.args.f c.args.g c.args.h c.swap-a1.result.0 c.swap-b1.result.0 c.swap-c1.result.0 c.swap-d1.result.0 c.swap-a1.result.1 c.swap-b1.result.1 c.swap-c1.result.1 c.swap-d1.result.1 c.swap-a1.ensures.high c.swap-a1.ensures.low c.swap-b1.ensures.high c.swap-b1.ensures.low c.swap-c1.ensures.high c.swap-c1.ensures.low c.swap-d1.ensures.high c.swap-d1.ensures.low (by_four 4 1085102592571150095 (by_two 16 281470681808895 (by_two 2 3689348814741910323 (by_one 8 71777214294589695 (by_one 1 6148914691236517205 p))))))
    places j i who within
