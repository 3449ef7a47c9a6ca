-- What `mux` wrote is a line that the chain sent, what `disturb` wrote rejoins it, and the outputs of `demux` rejoin the leaves' lists.
use Rattle.std.proofs.Common.{◌≡◌, ℕ, ◌<◌, List, Bool, Option, Some, Ok, Err, ap, sym, subst, arith, lit<}
use Rattle.pdh_bits.specs.Bits.{bits_of, bytes_of}
use Rattle.pdh_edge.specs.Files.{ShelfState, SinkState}
use Rattle.pdh_nesting.specs.Receiving.{far}
use Rattle.pdh_blocks.proofs.Appending.{whole}
use Rattle.pdh_chain.specs.declared.chain.Chain.{Chain}
use Rattle.pdh_chain.specs.Chains.{shapes_of, leaves_of}
use Rattle.pdh_chain.proofs.ChainLaws.{are_frames, keep_right}
use Rattle.pdh_recovery.specs.Recovering.{RejoinsList}
use Rattle.pdh_recovery.specs.Downwards.{LeafComesBack}
use Rattle.pdh_recovery.proofs.DownLaws.{leaf_comes_back}
use Rattle.pdh_watch.specs.Monitors.{State}
use Rattle.pdh_answers.specs.Answer.{Answer}
use Rattle.pdh_answers.specs.Lines.{IsTold}
use Rattle.pdh_answers.specs.Names.{name_of, line_file, line_name}
use Rattle.pdh_answers.specs.declared.file.Bits.{Bits}
use Rattle.pdh_words.specs.declared.commands.Command.{Command}
use Rattle.pdh_words.specs.declared.commands.Command.TheVariants.{Mux, Disturb, Demux}
use Rattle.pdh_making.specs.Schedules.{rows_in}
use Rattle.pdh_runner.specs.Operation.{bytes_in}
use Rattle.pdh_recorded.specs.Demux.{output_of, demuxing}
use Rattle.pdh_runner.specs.Performing.{Performs}
use Rattle.pdh_ops.specs.Run.{Runs}
use Rattle.pdh_making.specs.Mux.{line_bytes, muxing}
use Rattle.pdh_recorded.specs.Disturb.{script_in, bent_bytes, disturbing}
use Rattle.pdh_ops.specs.Rejoined.{made_from, end_from, AreRejoined}
use Rattle.pdh_ops.proofs.MuxGivesBack.{stop_status, mux_done}
use Rattle.pdh_ops.proofs.MuxIsSent.{sent_line}
use Rattle.pdh_ops.proofs.BentRejoins.{rejoins_part, bent_rejoins}

output_comes_back : (chain : Chain) (line output : List ℕ) (leaf : ℕ) → leaf < leaves_of chain → output ≡ output_of chain line leaf → LeafComesBack (shapes_of chain) (bits_of line) leaf (bits_of output)
unfolding output_of
output_comes_back chain line output leaf low is counts lists says bits e u quiet full held most same down =
    let received : List Bool = far (shapes_of chain) (bits_of line) leaf in
    let back = leaf_comes_back (shapes_of chain) (bits_of line) leaf (are_frames chain) (keep_right chain) low counts lists says bits e u quiet full held most same down in
    let whole_bytes : bits_of output ≡ bits_of (bytes_of received) = ap bits_of is in
    (back.0, back.1, back.2, subst (λ l. RejoinsList l (lists leaf) back.0 back.1) (sym whole_bytes) (rejoins_part received (bits_of (bytes_of received)) _ (lists leaf) back.0 back.1 (whole received) back.3))

-- ---- the commands

answer_sent : (chain : Chain) (feac : Option ℕ) (a b : ShelfState) (k l : SinkState) (v : List State) (status : ℕ) (answer : Answer) → Performs (muxing chain feac) a b answer → IsTold v answer k l status → AreRejoined (Some (Mux chain feac)) a b status
answer_sent chain feac a b k l v status (Err stop) performs tells files line told now status_is = absurd (omega (arith, tells.0, stop_status stop))
answer_sent chain feac a b k l v status (Ok done) performs tells files line told now status_is =
    let same : Some line ≡ Some (line_bytes chain feac files (rows_in chain files)) = performs.outputs 0 (lit< tt) files told (Some line) now in
    let is : line ≡ line_bytes chain feac files (rows_in chain files) = cc in
    sent_line chain feac files line (mux_done chain feac files done (performs.cause files told)) is

answer_bent : (chain : Chain) (a b : ShelfState) (k l : SinkState) (v : List State) (status : ℕ) (answer : Answer) → Performs (disturbing chain) a b answer → IsTold v answer k l status → AreRejoined (Some (Disturb chain)) a b status
answer_bent chain a b k l v status (Err stop) performs tells files line told now status_is = absurd (omega (arith, tells.0, stop_status stop))
answer_bent chain a b k l v status (Ok done) performs tells files line told now status_is =
    let same : Some line ≡ Some (bent_bytes (bytes_in files line_name) (script_in files)) = performs.outputs 0 (lit< tt) files told (Some line) now in
    let is : bent_bytes (bytes_in files line_name) (script_in files) ≡ line = cc in
    subst (λ l. RejoinsList (bits_of l) (bits_of (bytes_in files line_name)) (made_from 0 (script_in files)) (end_from 0 (script_in files))) is (bent_rejoins files)

answer_rejoined : (chain : Chain) (bits : Bits) (a b : ShelfState) (k l : SinkState) (v : List State) (status : ℕ) (answer : Answer) → Performs (demuxing chain bits) a b answer → IsTold v answer k l status → AreRejoined (Some (Demux chain bits)) a b status
answer_rejoined chain bits a b k l v status (Err stop) performs tells files output leaf told now status_is low = absurd (omega (arith, tells.0, stop_status stop))
answer_rejoined chain bits a b k l v status (Ok done) performs tells files output leaf told now status_is low =
    let line : List ℕ = bytes_in files (name_of (line_file bits)) in
    let same : Some output ≡ Some (output_of chain line leaf) = performs.outputs leaf low files told (Some output) now in
    let is : output ≡ output_of chain line leaf = cc in
    output_comes_back chain line output leaf low is

pub are_rejoined : (command : Option Command) (a b : ShelfState) (k l : SinkState) (v w : List State) (status : ℕ) → Runs command a b k l v w status → AreRejoined command a b status
are_rejoined (Some (Mux chain feac)) a b k l v w status runs = answer_sent chain feac a b k l w status runs.answer runs.does runs.told
are_rejoined (Some (Disturb chain)) a b k l v w status runs = answer_bent chain a b k l w status runs.answer runs.does runs.told
are_rejoined (Some (Demux chain bits)) a b k l v w status runs = answer_rejoined chain bits a b k l w status runs.answer runs.does runs.told
are_rejoined _ a b k l v w status runs = tt
