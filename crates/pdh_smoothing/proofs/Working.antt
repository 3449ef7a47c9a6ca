-- What a call did to a port that keeps marks, told of the port.
use Rattle.std.proofs.Common.{◌≡◌, inl, ℕ, suc, ◌^◌, ◌<◌, Bool, List, [], ◌∷◌, Result, Ok, Err, OnOk, refl, subst, sym}
use Rattle.std.specs.Prelude.{IfErr, IsErrOf}
use Rattle.pdh_shape.specs.Frame.{FrameShape, IsFrame}
use Rattle.pdh_edge.specs.declared.mem_port.MemPort.{MemPort}
use Rattle.pdh_edge.specs.MemLists.{StaysInRoom}
use Rattle.pdh_edge.specs.Ports.{Inputs, Outputs}
use Rattle.pdh_edge.specs.Progress.{Works, counted_after}
use Rattle.pdh_watch.specs.declared.event.Event.{Event}
use Rattle.pdh_rx.specs.Meaning.{Meaning}
use Rattle.pdh_chain.specs.Demuxing.{Receives, IsReceiveStop}
use Rattle.pdh_chain.specs.Calls.{IsLeft}
use Rattle.pdh_chain.specs.Faults.{demux_reads, demux_writes, counted_at_demux_stop}
use Rattle.pdh_chain.specs.declared.stop.DemuxStop.{DemuxStop}
use Rattle.pdh_chain.specs.declared.stop.DemuxStop.TheVariants.{Memory, Ended, ReadFailed, WriteFailed}
use Rattle.pdh_smoothing.specs.Split.{split_outputs, both_faults}
use Rattle.pdh_smoothing.specs.Again.{lists_in}
use Rattle.pdh_smoothing.specs.Smoothing.{IsSmoothStop}
use Rattle.pdh_smoothing.specs.Steps.{HasMarkLists, TakesLine}
use Rattle.pdh_smoothing.proofs.Received.{meaning_of, line_taken, whole_unfailed, stop_taken}
use Rattle.pdh_smoothing.proofs.Told.{writes_of}

-- what holds of a value before a call and one after it, of others that are the same
pub moved : {X : Type 0} (A : X → X → Type 0) {x y z w : X} → y ≡ x → w ≡ z → A y z → A x w
moved A {x} {y} {z} {w} old new h = subst (A x) (sym new) (subst (λ v. A v z) old h)

-- both counts after a call
pub reads_counted : {T : Type 0} (r : Result T DemuxStop) (faults : ℕ × ℕ) → (counted_after counted_at_demux_stop r faults).0 ≡ demux_reads r faults.0
reads_counted (Ok x) faults = refl
reads_counted (Err stop) faults = refl

pub writes_counted : {T : Type 0} (r : Result T DemuxStop) (faults : ℕ × ℕ) → (counted_after counted_at_demux_stop r faults).1 ≡ demux_writes r faults.1
writes_counted (Ok x) faults = refl
writes_counted (Err stop) faults = refl

-- A call gave a receiver the bits of a line. `x` and `o` are what is told of the port before it, `x'` and `o'` after it, and `k`
-- and `k'` the port that keeps marks.
module _ (s : FrameShape) (shape : IsFrame s) (bits : ℕ) (m : Meaning) (means : m ≡ meaning_of s) (stands : List Bool → Type 0) (sees : List Event → Type 0) (x x' : Inputs) (o o' : Outputs) (k k' : MemPort) (from from' : ℕ) (at : from ≡ suc s.tribs) (at' : from' ≡ from)
    (reads reads' a a' : ℕ) (has : HasMarkLists s bits k) (same : (lists_in k').holds ≡ (lists_in k).holds) (stays : StaysInRoom k.outputs.items k'.outputs.items k.faults k'.faults) where
  abbrev Whole : Type 0
  Whole = Receives m stands sees bits x x' (split_outputs from o (lists_in k)) (split_outputs from' o' (lists_in k'))

  abbrev Part : DemuxStop → Type 0
  Part stop = IsReceiveStop m sees bits x x' (split_outputs from o (lists_in k)) (split_outputs from' o' (lists_in k')) reads reads' (both_faults a k.faults) (both_faults a' k'.faults) stop

  -- the number of the first list that is kept
  whole_at : Whole → Receives (meaning_of s) stands sees bits x x' (split_outputs (suc s.tribs) o (lists_in k)) (split_outputs (suc s.tribs) o' (lists_in k'))
  whole_at w =
      subst (λ n. Receives (meaning_of s) stands sees bits x x' (split_outputs n o (lists_in k)) (split_outputs n o' (lists_in k'))) at
      (subst (λ n. Receives (meaning_of s) stands sees bits x x' (split_outputs from o (lists_in k)) (split_outputs n o' (lists_in k'))) at'
      (subst (λ (m : Meaning). Receives m stands sees bits x x' (split_outputs from o (lists_in k)) (split_outputs from' o' (lists_in k'))) means w))

  part_at : (stop : DemuxStop) → Part stop → IsReceiveStop (meaning_of s) sees bits x x' (split_outputs (suc s.tribs) o (lists_in k)) (split_outputs (suc s.tribs) o' (lists_in k')) reads reads' (both_faults a k.faults) (both_faults a' k'.faults) stop
  part_at stop w =
      subst (λ n. IsReceiveStop (meaning_of s) sees bits x x' (split_outputs n o (lists_in k)) (split_outputs n o' (lists_in k')) reads reads' (both_faults a k.faults) (both_faults a' k'.faults) stop) at
      (subst (λ n. IsReceiveStop (meaning_of s) sees bits x x' (split_outputs from o (lists_in k)) (split_outputs n o' (lists_in k')) reads reads' (both_faults a k.faults) (both_faults a' k'.faults) stop) at'
      (subst (λ (m : Meaning). IsReceiveStop m sees bits x x' (split_outputs from o (lists_in k)) (split_outputs from' o' (lists_in k')) reads reads' (both_faults a k.faults) (both_faults a' k'.faults) stop) means w))

  -- `W` and `F` are what a call says of its ends `p` and `q`, in whole and in part
  pub taken_ok : {S C T : Type 0} {keeps : S → S → Type 0} {count : S → C} {counts : DemuxStop → C → C} {W : S → S → Type 0} {F : DemuxStop → S → S → Type 0} {p q : S} (r : Result T DemuxStop) → Works keeps count counts W F p q r → (W p q → Whole) → ((stop : DemuxStop) → F stop p q → Part stop) → OnOk r (TakesLine s bits stands (lists_in k') x x' o o')
  taken_ok (Ok y) works whole part = line_taken s shape bits o o' k k' has stands sees x x' same (whole_at (whole works.does))
  taken_ok (Err stop) works whole part = tt

  pub taken_err : {S C T : Type 0} {keeps : S → S → Type 0} {count : S → C} {counts : DemuxStop → C → C} {W : S → S → Type 0} {F : DemuxStop → S → S → Type 0} {p q : S} (r : Result T DemuxStop) → Works keeps count counts W F p q r → (W p q → Whole) → ((stop : DemuxStop) → F stop p q → Part stop) → IfErr r (λ stop. IsSmoothStop (s ∷ []) bits x x' o o' reads reads' a a' stop)
  taken_err (Ok y) works whole part = tt
  taken_err (Err stop) works whole part = (stop_taken s shape bits o o' k k' has sees x x' reads reads' a a' stop same stays (part_at stop (part stop works.does))).0

  kept_unfailed : {S C T : Type 0} {keeps : S → S → Type 0} {count : S → C} {counts : DemuxStop → C → C} {W : S → S → Type 0} {F : DemuxStop → S → S → Type 0} {p q : S} (r : Result T DemuxStop) → Works keeps count counts W F p q r → (W p q → Whole) → ((stop : DemuxStop) → F stop p q → Part stop) → k'.faults ≡ 0
  kept_unfailed (Ok y) works whole part = whole_unfailed s shape bits o o' k k' has stands sees x x' same stays (whole_at (whole works.does))
  kept_unfailed (Err stop) works whole part = (stop_taken s shape bits o o' k k' has sees x x' reads reads' a a' stop same stays (part_at stop (part stop works.does))).1

  pub taken_writes : {S C T : Type 0} {keeps : S → S → Type 0} {count : S → C} {counts : DemuxStop → C → C} {W : S → S → Type 0} {F : DemuxStop → S → S → Type 0} {p q : S} (r : Result T DemuxStop) → Works keeps count counts W F p q r → (W p q → Whole) → ((stop : DemuxStop) → F stop p q → Part stop) → both_faults a' k'.faults ≡ demux_writes r (both_faults a k.faults) → a < 2 ^ 64 → a' < 2 ^ 64 → a' ≡ demux_writes r a
  taken_writes r works whole part counted few few' = writes_of r a a' k.faults k'.faults has.unfailed (kept_unfailed r works whole part) counted few few'

-- it leaves the port ready where it stops
pub left_taken : {S C T : Type 0} {keeps : S → S → Type 0} {count : S → C} {counts : DemuxStop → C → C} {W : S → S → Type 0} {F : DemuxStop → S → S → Type 0} {p q : S} (r : Result T DemuxStop) (fresh ready refused unread : Type 0)
    → Works keeps count counts W F p q r → ready → (F Memory p q → ⊥) → (IsErrOf r ReadFailed → unread) → IfErr r (λ stop. IsLeft fresh ready refused unread (Err stop))
left_taken (Ok y) fresh ready refused unread works here none read = tt
left_taken (Err Memory) fresh ready refused unread works here none read = absurd (none works.does)
left_taken (Err Ended) fresh ready refused unread works here none read = record { ready_is = here; unread_is = λ h. absurd (cc) }
left_taken (Err ReadFailed) fresh ready refused unread works here none read = record { ready_is = here; unread_is = λ h. read refl }
left_taken (Err WriteFailed) fresh ready refused unread works here none read = record { ready_is = inl here; unread_is = λ h. absurd (cc) }
