-- What was put of the schedule of a line of 8448 kbit/s that was taken apart through far stores.
use Rattle.std.proofs.Common.{◌≡◌, ℕ, ◌-◌, ◌++◌, Bool, cond, List, [], ◌∷◌, length, map, ap, ◌∙◌, take, Some, arith}
use Rattle.std.specs.List.{range_with_len}
use Rattle.std.proofs.lemmas.Bool.{eq-eqb}
use Rattle.pdh_bits.specs.Bits.{bits_of}
use Rattle.pdh_edge.specs.Ports.{Inputs, Outputs, after}
use Rattle.pdh_eframes.specs.Plans.{e2}
use Rattle.pdh_desync.specs.FarStore.{pieces_of}
use Rattle.pdh_smoothing.specs.Again.{reads_in, rows_text, schedule_again}
use Rattle.pdh_smoothing.specs.Smoothing.{Smooths}
use Rattle.pdh_claims_of_chains.proofs.Lines.{taken_first}

-- the schedule stands behind what its list had
pub schedule_put : {bits frames : ℕ} {inputs inputs_now : Inputs} {outputs outputs_now : Outputs} (list old : List Bool) (s : Smooths (e2 ∷ []) bits frames inputs inputs_now outputs outputs_now)
    → inputs.told 0 ≡ Some list → outputs.told 4 ≡ Some old → outputs_now.told 4 ≡ Some (old ++ bits_of (schedule_again e2 (take bits list)))
schedule_put {bits} {frames} {inputs} {inputs_now} {outputs} {outputs_now} list old s told held =
    s.line.puts 4 (omega arith)
    ∙ ap (λ b. after (cond b (bits_of (schedule_again e2 s.given)) []) (outputs.told 4)) (eq-eqb _ _ s.count)
    ∙ ap (after (bits_of (schedule_again e2 s.given))) held
    ∙ ap (λ (line : List Bool). Some (old ++ bits_of (schedule_again e2 line))) (taken_first list s.given bits s.line.takes s.count told)

-- its rows, where the line has so many pieces
pub schedule_by : (line : List Bool) (n : ℕ) → length (pieces_of e2 line) ≡ n → schedule_again e2 line ≡ rows_text (map (reads_in e2 (pieces_of e2 line)) (range_with_len 1 (n - 1)))
unfolding schedule_again
schedule_by line n count = ap (λ (m : ℕ). rows_text (map (reads_in e2 (pieces_of e2 line)) (range_with_len 1 (m - 1)))) count
