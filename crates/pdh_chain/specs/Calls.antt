-- What the calls of this crate want of a port and leave of it, in words that their contracts share. `feeds` and `drains` are what
-- is told of the port's kind as a feed and as an output, `old` and `new` the port before and after the call.
use Rattle.std.specs.Prelude.{◌≡◌, ℕ, ◌+◌, ◌*◌, ◌^◌, ◌<◌, ◌≤◌, Bool, false, List, [], length, Option, Result, OnOk, IsErrOf, IsTrue}
use Rattle.pdh_edge.specs.declared.port.Feed as feed
use Rattle.pdh_edge.specs.declared.port.Drain as drain
use Rattle.pdh_edge.specs.Counts.{one_more}
use Rattle.pdh_edge.specs.MemLists.{bits_held}
use Rattle.pdh_edge.specs.Ports.{Inputs, Outputs}
use Rattle.pdh_edge.specs.Progress.{Works, port_faults}
use Rattle.pdh_shape.specs.declared.role.Service.{Service}
use Rattle.pdh_shape.specs.Frame.{FrameShape}
use Rattle.pdh_line.specs.Sending.{Mode}
use Rattle.pdh_line.specs.Nodes.{Counts}
use Rattle.pdh_line.specs.Paths.{top}
use Rattle.pdh_nesting.specs.Chains.{width}
use Rattle.pdh_nesting.specs.Sending.{given_below, AllScheduled}
use Rattle.pdh_clock.specs.Contents.{Contents, frame_count, counts}
use Rattle.pdh_watch.specs.declared.event.Event.{Event}
use Rattle.pdh_tx.specs.declared.tx.Tx as tx
use Rattle.pdh_tx.specs.declared.tx.TxStop.{TxStop}
use Rattle.pdh_tx.specs.Meaning.{Plan, Meaning, plan_of}
use Rattle.pdh_tx.specs.Making.{IsClear, IsUneventful}
use Rattle.pdh_tx.specs.Calls.{IsFed, HaltsNext}
use Rattle.pdh_rx.specs.Meaning.{Meaning as Receiving, HoldsAll}
use Rattle.pdh_chain.specs.Chains.{shapes_of}
use Rattle.pdh_chain.specs.Trees.{AreLevelsOf, sender_of}
use Rattle.pdh_chain.specs.Saying.{says_of}
use Rattle.pdh_chain.specs.Muxing.{HasFrames, SayInFrames, MakesBits, StopsMaking, Sends, IsSendStop}
use Rattle.pdh_chain.specs.Demuxing.{Receives, IsReceiveStop}
use Rattle.pdh_chain.specs.Faults.{counted_at_demux_stop, counted_at_send_stop}
use Rattle.pdh_chain.specs.Muxes.{IsTolerated, Muxes, IsMuxStop}
use Rattle.pdh_chain.specs.Demuxes.{Demuxes, IsDemuxStop, IsDemuxLeft}
use Rattle.pdh_chain.specs.declared.sending.SendStop.{SendStop}
use Rattle.pdh_chain.specs.declared.sending.SendStop.TheVariants.{Sender, TakeFailed, WriteFailed}
use Rattle.pdh_chain.specs.declared.chain.Chain.{Chain}
use Rattle.pdh_chain.specs.declared.stop.MuxStop.{MuxStop}
use Rattle.pdh_chain.specs.declared.stop.DemuxStop.{DemuxStop}
use Rattle.pdh_chain.specs.declared.stop.DemuxStop.TheVariants.{ReadFailed}

-- ---- whole chains

-- The port is fresh. On one side it has a list for each leaf, and on the other list 0, which is the line's: `leaf_lists` and
-- `lines` tell which lists there are on each.
pub record IsPortFor (fresh : Type 0) (leaves : ℕ) (leaf_lists lines : ℕ → Bool) : Type 0 where
  pub is_fresh : fresh
  pub has_leaves : (k : ℕ) → k < leaves → IsTrue (leaf_lists k)
  pub has_line : IsTrue (lines 0)

-- a chain with these frames has at most three levels, and numbers for its leaves
pub record AreFew (shapes : List FrameShape) : Type 0 where
  pub depth : length shapes ≤ 3
  pub numbered : width shapes < 2 ^ 32

-- the schedule is one of such a chain, whose nodes are of the kind of their frames
pub record IsChainOf (shapes : List FrameShape) (fits : Type 0) (schedule : Contents) : Type 0 where
  pub few : AreFew shapes
  pub kinds : fits
  pub levels_are : AreLevelsOf shapes schedule.levels

-- Senders with these frames, whose nodes are of the kind of their frames where this holds, and receivers with those frames are such
-- as a chain has.
pub record AreOfChain (chain : Chain) (sends receives : List FrameShape) (fits : Type 0) : Type 0 where
  pub few : AreFew sends
  pub kinds : fits
  pub sends_are : sends ≡ shapes_of chain
  pub receives_are : receives ≡ shapes_of chain

-- so many frames of the chain's line of a mode were made by this schedule and put, with this code in them
abbrev pub MuxesBy : {P : Type 0} → feed.Ghosts P → drain.Ghosts P → Mode → List FrameShape → Contents → Option ℕ → ℕ → P → P → Type 0
MuxesBy feeds drains mode shapes schedule feac frames old new =
    Muxes mode shapes (counts schedule.rows) (says_of feac) (frame_count schedule.rows) frames (feeds.inputs old) (feeds.inputs new) (drains.outputs old) (drains.outputs new)

-- or this is why they weren't
abbrev pub MuxStopsBy : {P : Type 0} → feed.Ghosts P → drain.Ghosts P → Mode → List FrameShape → Contents → Option ℕ → ℕ → P → P → MuxStop → Type 0
MuxStopsBy feeds drains mode shapes schedule feac frames old new =
    IsMuxStop mode shapes (counts schedule.rows) (says_of feac) (frame_count schedule.rows) frames (feeds.inputs old) (feeds.inputs new) (drains.outputs old) (drains.outputs new)
    (feeds.feed_faults old) (feeds.feed_faults new) (drains.drain_faults old) (drains.drain_faults new)

-- so many bits of a chain's line were taken apart, of which these frames were delivered, and their events seen
abbrev pub DemuxesBy : {P : Type 0} → feed.Ghosts P → drain.Ghosts P → List FrameShape → (List Event → Type 0) → ℕ → P → P → ℕ → Type 0
DemuxesBy feeds drains shapes sees bits old new frames = Demuxes shapes sees bits frames (feeds.inputs old) (feeds.inputs new) (drains.outputs old) (drains.outputs new)

-- or this is why they weren't
abbrev pub DemuxStopsBy : {P : Type 0} → feed.Ghosts P → drain.Ghosts P → List FrameShape → (List Event → Type 0) → ℕ → P → P → DemuxStop → Type 0
DemuxStopsBy feeds drains shapes sees bits old new =
    IsDemuxStop shapes sees bits (feeds.inputs old) (feeds.inputs new) (drains.outputs old) (drains.outputs new)
    (feeds.feed_faults old) (feeds.feed_faults new) (drains.drain_faults old) (drains.drain_faults new)

-- how `demux` leaves its port: fresh, ready or refused, and where a read failed, with no call since
pub record IsLeft (fresh ready refused unread : Type 0) (result : Result ℕ DemuxStop) : Type 0 where
  pub ready_is : IsDemuxLeft fresh ready refused result
  pub unread_is : IsErrOf result ReadFailed → unread

-- whatever a call took of its lists and put to them by this, no list took more than so many bits
abbrev pub PutsAtMost : (Inputs → Inputs → Outputs → Outputs → Type 0) → ℕ → Type 0
PutsAtMost call most =
    (inputs inputs_now : Inputs) (outputs outputs_now : Outputs) → call inputs inputs_now outputs outputs_now
    → (k : ℕ) → bits_held outputs_now k ≤ bits_held outputs k + most

-- ---- senders

-- each leaf's list has the bits that it gives for those of the line from one place to another
abbrev pub HaveEnough : List FrameShape → Counts → ℕ → ℕ → Inputs → Type 0
HaveEnough shapes counts from to inputs = (k : ℕ) → k < width shapes → given_below shapes counts [] to k ≤ given_below shapes counts [] from k + inputs.left k

-- so many bits of a chain's line are within the tolerance, and the schedule has all frames that its nodes begin in them
pub record IsScheduledWithin (shapes : List FrameShape) (schedule : Contents) (bits : ℕ) : Type 0 where
  pub tolerated : IsTolerated shapes (counts schedule.rows) bits
  pub scheduled : AllScheduled shapes (counts schedule.rows) (frame_count schedule.rows) [] bits

-- nothing stands in the way of the bits of a chain's line from one place to another, and they bring no slip, so that its sender may
-- make them at once
abbrev pub GoesClear : List FrameShape → Contents → ℕ → ℕ → Inputs → Type 0
GoesClear shapes schedule from to inputs = IsClear (sender_of shapes top 0) (plan_of schedule) from to inputs

-- the sender runs, has made no bit by this plan, and its frames have so many bits
pub record IsAtStart {T : Type 0} (sender : tx.Ghosts T) (t : T) (plan : Plan) (len : ℕ) : Type 0 where
  pub running : sender.is_stopped t ≡ false
  pub stands : sender.stands_at t plan 0
  pub frames : HasFrames (sender.meaning t) len

-- each leaf has a list, as the line has, and the nodes are nodes of this schedule's chain
pub record IsLinked (m : Meaning) (schedule : Contents) (inputs : Inputs) (outputs : Outputs) : Type 0 where
  pub fed : IsFed m schedule inputs
  pub line : IsTrue (outputs.holds 0)

-- after a call the sender means the same, and runs still where the call made what it was asked for
pub record RunsOn {T X E : Type 0} (sender : tx.Ghosts T) (old new : T) (result : Result X E) : Type 0 where
  pub same : sender.meaning new ≡ sender.meaning old
  pub running : OnOk result (sender.is_stopped new ≡ false)

-- it made the bits of a frame, so many, whatever its frames say, as long as the one that they begin says what it says now
abbrev pub MakesFrame : {T : Type 0} → tx.Ghosts T → T → T → Plan → ℕ → List Bool → Inputs → Inputs → Type 0
MakesFrame sender old new plan len bits before after =
    (x : ℕ) (says : ℕ → Service) → sender.stands_at old plan x → SayInFrames (sender.meaning old) says (sender.says old) x (x + len)
    → MakesBits (sender.meaning old) says (sender.stands_at new plan) (sender.stands_for old) (sender.stands_for new) plan x (x + len) bits before after

-- or it stopped on the way
abbrev pub StopsInFrame : {T : Type 0} → tx.Ghosts T → T → Plan → ℕ → TxStop → Inputs → Inputs → ℕ → ℕ → Type 0
StopsInFrame sender t plan len stop before after faults now =
    (x : ℕ) → sender.stands_at t plan x → StopsMaking (sender.meaning t) plan x (x + len) stop before after faults now

-- it stands somewhere, and nothing stands in the way of its next bits, so many, nor do they bring a slip
abbrev pub StandsFree : {T : Type 0} → tx.Ghosts T → T → Plan → ℕ → Inputs → Type 0
StandsFree sender t plan clear inputs = (x : ℕ) × sender.stands_at t plan x × IsUneventful (sender.meaning t) plan x (x + clear) inputs

-- where that is so of so many of its next bits, it is so of so many
abbrev pub KeepsFree : {T : Type 0} → tx.Ghosts T → T → Plan → ℕ → ℕ → Inputs → Type 0
KeepsFree sender t plan clear now inputs =
    (x : ℕ) → sender.stands_at t plan x → IsUneventful (sender.meaning t) plan x (x + clear) inputs → IsUneventful (sender.meaning t) plan x (x + now) inputs

-- its next bits, so many, took some of what waits, and what was free in it behind them is so still
abbrev pub KeepsWaiting : {T : Type 0} → tx.Ghosts T → T → Plan → ℕ → Inputs → Inputs → Type 0
KeepsWaiting sender t plan len before after =
    (x to : ℕ) → sender.stands_at t plan x → IsUneventful (sender.meaning t) plan x to before → IsUneventful (sender.meaning t) plan (x + len) to after

-- it made the bits of a frame, so many, as above, where nothing stands in the way of so many
abbrev pub MakesFrameFree : {T : Type 0} → tx.Ghosts T → T → T → Plan → ℕ → ℕ → List Bool → Inputs → Inputs → Type 0
MakesFrameFree sender old new plan len clear bits before after =
    (x : ℕ) (says : ℕ → Service) → sender.stands_at old plan x → IsUneventful (sender.meaning old) plan x (x + clear) before
    → SayInFrames (sender.meaning old) says (sender.says old) x (x + len)
    → MakesBits (sender.meaning old) says (sender.stands_at new plan) (sender.stands_for old) (sender.stands_for new) plan x (x + len) bits before after

-- or this is why it didn't: it stopped on the way, or a call failed where nothing stood in the way
abbrev pub StopsFrame : {T : Type 0} → tx.Ghosts T → T → Plan → ℕ → Inputs → Inputs → ℕ → ℕ → SendStop → Type 0
StopsFrame sender t plan len before after faults now (Sender stop) = StopsInFrame sender t plan len stop before after faults now
StopsFrame sender t plan len before after faults now TakeFailed = HaltsNext sender.meaning sender.stands_at t plan len before after × (now ≡ one_more faults)
StopsFrame sender t plan len before after faults now WriteFailed = ⊥

-- its first bits, so many, were sent, with this code in its frames
abbrev pub SendsBy : {T P : Type 0} → tx.Ghosts T → feed.Ghosts P → drain.Ghosts P → T → T → Plan → Option ℕ → ℕ → P → P → Type 0
SendsBy sender feeds drains t t_now plan feac bits old new =
    Sends (sender.meaning t) (says_of feac) (sender.stands_at t_now plan) (sender.stands_for t) (sender.stands_for t_now) plan bits
    (feeds.inputs old) (feeds.inputs new) (drains.outputs old) (drains.outputs new)

-- or this is why they weren't, where frames have so many bits
abbrev pub SendStopsBy : {T P : Type 0} → tx.Ghosts T → feed.Ghosts P → drain.Ghosts P → T → Plan → Option ℕ → ℕ → ℕ → P → P → SendStop → Type 0
SendStopsBy sender feeds drains t plan feac len frames old new =
    IsSendStop (sender.meaning t) (says_of feac) (sender.stands_for t) plan len frames (feeds.inputs old) (feeds.inputs new) (drains.outputs old) (drains.outputs new)
    (feeds.feed_faults old) (feeds.feed_faults new) (drains.drain_faults old) (drains.drain_faults new)

-- so many frames were sent, or this is why they weren't, with what the port keeps
abbrev pub SendsFrames : {T P X : Type 0} → tx.Ghosts T → feed.Ghosts P → drain.Ghosts P → (P → P → Type 0) → T → T → Plan → Option ℕ → ℕ → ℕ → P → P → Result X SendStop → Type 0
SendsFrames sender feeds drains keeps t t_now plan feac len frames =
    Works keeps (port_faults feeds drains) counted_at_send_stop (SendsBy sender feeds drains t t_now plan feac (frames * len)) (λ stop old new. SendStopsBy sender feeds drains t plan feac len frames old new stop)

-- ---- receivers

-- each leaf has a list to put to, and the line one to take of
pub record IsLinkedTo (m : Receiving) (inputs : Inputs) (outputs : Outputs) : Type 0 where
  pub lists : HoldsAll m.leaves outputs
  pub line : IsTrue (inputs.holds 0)

-- a receiver got so many bits of the line, and their events were seen; `stands` tells for which bits it stands
abbrev pub ReceivesBy : {P : Type 0} → feed.Ghosts P → drain.Ghosts P → Receiving → (List Bool → Type 0) → (List Event → Type 0) → ℕ → P → P → Type 0
ReceivesBy feeds drains m stands sees bits old new = Receives m stands sees bits (feeds.inputs old) (feeds.inputs new) (drains.outputs old) (drains.outputs new)

-- or this is why it didn't get them
abbrev pub ReceiveStopsBy : {P : Type 0} → feed.Ghosts P → drain.Ghosts P → Receiving → (List Event → Type 0) → ℕ → P → P → DemuxStop → Type 0
ReceiveStopsBy feeds drains m sees bits old new =
    IsReceiveStop m sees bits (feeds.inputs old) (feeds.inputs new) (drains.outputs old) (drains.outputs new)
    (feeds.feed_faults old) (feeds.feed_faults new) (drains.drain_faults old) (drains.drain_faults new)

-- it got its first bits, so many, or this is why it didn't get all of them, with what the port keeps
abbrev pub ReceivesFirst : {P T : Type 0} → feed.Ghosts P → drain.Ghosts P → (P → P → Type 0) → Receiving → (List Bool → Type 0) → (List Event → Type 0) → ℕ → ℕ → P → P → Result T DemuxStop → Type 0
ReceivesFirst feeds drains keeps m stands sees bits all =
    Works keeps (port_faults feeds drains) counted_at_demux_stop (ReceivesBy feeds drains m stands sees bits) (λ stop old new. ReceiveStopsBy feeds drains m sees all old new stop)
