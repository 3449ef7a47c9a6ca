-- What was put of a line that was made, and what was taken of one that is taken apart.
use Rattle.std.proofs.Common.{◌≡◌, ℕ, ◌++◌, Bool, List, length, refl, ap, ◌∙◌, sym, take, Some, None}
use Rattle.std.specs.Prelude.{Option, Result, Ok, Err, OnOk}
use Rattle.std.proofs.Math.Seq.{take-append_seam}
use Rattle.pdh_edge.specs.Ports.{Inputs, Outputs, Takes, before, after}
use Rattle.pdh_edge.specs.Progress.{Does}
use Rattle.pdh_line.specs.Sending.{Mode}
use Rattle.pdh_line.specs.Nodes.{Counts}
use Rattle.pdh_shape.specs.Frame.{FrameShape}
use Rattle.pdh_shape.specs.declared.role.Service.{Service}
use Rattle.pdh_chain.specs.Muxing.{as_line}
use Rattle.pdh_chain.specs.Muxes.{PutsFrames, frames_of_line}

pub on_ok : {T F : Type 0} (r : Result T F) (P Q : Type 0) → (P → Q) → OnOk r P → OnOk r Q
on_ok (Ok x) P Q f h = f h
on_ok (Err e) P Q f h = tt

pub does_ok : {S T E : Type 0} (Whole : S → S → Type 0) (Part : E → S → S → Type 0) (old new : S) (r : Result T E) (Q : Type 0) → (Whole old new → Q) → Does Whole Part old new r → OnOk r Q
does_ok Whole Part old new (Ok x) Q f h = f h
does_ok Whole Part old new (Err e) Q f h = tt

-- the frames that were put stand behind what the line's list had
pub put_behind : {mode : Mode} {shapes : List FrameShape} {counts : Counts} {says : ℕ → Service} {frames : ℕ} {inputs inputs_now : Inputs} {outputs outputs_now : Outputs} (old : List Bool) (line : PutsFrames mode shapes counts says frames inputs inputs_now outputs outputs_now)
    → outputs.told 0 ≡ Some old → outputs_now.told 0 ≡ Some (old ++ frames_of_line mode shapes counts says line.given frames)
put_behind {mode} {shapes} {counts} {says} {frames} old line told = line.puts line.given (λ k i known below. refl) 0 ∙ ap (after (frames_of_line mode shapes counts says line.given frames)) told

-- the bits that were taken are the first ones of the line's list
pub taken_first : (list given : List Bool) (bits : ℕ) {inputs inputs_now : Inputs} → Takes (as_line given) inputs inputs_now → length given ≡ bits → inputs.told 0 ≡ Some list → given ≡ take bits list
taken_first list given bits {inputs} {inputs_now} takes count told = by (inputs_now.told 0) (sym told ∙ takes.bits 0)
  where
    by : (rest : Option (List Bool)) → Some list ≡ before given rest → given ≡ take bits list
    by None is = cc
    by (Some rest) is =
        let all : list ≡ given ++ rest = cc in
        sym (ap (take bits) all ∙ ap (λ n. take n (given ++ rest)) (sym count) ∙ take-append_seam given rest)
