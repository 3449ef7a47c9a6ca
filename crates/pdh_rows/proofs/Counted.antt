-- Rows of counts.
use Rattle.std.proofs.Common.{◌≡◌, ℕ, ◌<◌, ◌^◌, List, [], ◌∷◌, map, refl, ap, arith}
use Rattle.pdh_rows.specs.declared.flow.Flow.{Flow}
use Rattle.pdh_rows.specs.declared.flow.Says.{Says}
use Rattle.pdh_rows.specs.declared.flow.Says.TheVariants.{Counts}
use Rattle.pdh_rows.specs.Flows.{each, flow_in, FlowFits}
use Rattle.pdh_rows.specs.Stored.{node_row, said_row}

map_flow_in : (ratio : Flow) (says : Says) (numbers : List ℕ) → says ≡ Counts → map (flow_in ratio says) numbers ≡ map each numbers
map_flow_in ratio Counts [] is = refl
map_flow_in ratio Counts (number ∷ numbers) is = ap (λ flows. each number ∷ flows) (map_flow_in ratio Counts numbers is)
map_flow_in ratio says numbers is = absurd (cc)

-- such a row says the same counts of each frame
pub said_row-each : (ratio : Flow) (repeat : ℕ) (says : Says) (numbers : List ℕ) → says ≡ Counts → said_row ratio repeat says numbers ≡ node_row repeat numbers
said_row-each ratio repeat says numbers is = ap (λ flows. record { repeat = repeat; flows = flows }) (map_flow_in ratio says numbers is)

-- counts fit
pub each_fits : (repeat count : ℕ) → repeat < 2 ^ 32 → count < 2 ^ 32 → FlowFits repeat (each count)
each_fits repeat count few most = record {
  some = omega arith;
  few = omega arith;
  all_few = omega arith;
  most = omega arith;
}
