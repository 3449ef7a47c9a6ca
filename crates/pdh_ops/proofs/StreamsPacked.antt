-- What `e1pack` and `ds1pack` leave is the packed line of their payload.
use Rattle.std.proofs.Common.{◌≡◌, ℕ, ◌<◌, List, Option, Some, Ok, Err, sym, subst, arith, lit<}
use Rattle.pdh_e1.specs.Codec.{IsPacked}
use Rattle.pdh_ds1.specs.Codec.{IsPacked as IsDs1Packed, packed_line as ds1_line}
use Rattle.pdh_ds1.specs.declared.form.Frame1.{Frame1}
use Rattle.pdh_ds1.proofs.PackingLaws.{line_is_packed as ds1_line_is_packed}
use Rattle.pdh_edge.specs.Files.{ShelfState, SinkState}
use Rattle.pdh_watch.specs.Monitors.{State}
use Rattle.pdh_words.specs.declared.commands.Command.{Command}
use Rattle.pdh_words.specs.declared.commands.Command.TheVariants.{E1Pack, Ds1Pack}
use Rattle.pdh_answers.specs.Answer.{Answer}
use Rattle.pdh_answers.specs.Lines.{IsTold}
use Rattle.pdh_answers.specs.Names.{payload_name}
use Rattle.pdh_runner.specs.Operation.{bytes_in}
use Rattle.pdh_runner.specs.Performing.{Performs}
use Rattle.pdh_streams.specs.Codecs.{packing}
use Rattle.pdh_streams.specs.E1.{e1_codec, packed_line}
use Rattle.pdh_streams.specs.Ds1.{ds1_codec}
use Rattle.pdh_streams.proofs.PackingLaws.{payload_whole}
use Rattle.pdh_streams.proofs.E1Packing.{line_is_packed}
use Rattle.pdh_ops.specs.Packs.{Packs}
use Rattle.pdh_ops.specs.Run.{Runs}
use Rattle.pdh_ops.proofs.MuxGivesBack.{stop_status}

e1_packs : (a b : ShelfState) (k l : SinkState) (v : List State) (status : ℕ) (answer : Answer) → Performs (packing e1_codec) a b answer → IsTold v answer k l status → Packs (Some E1Pack) a b status
e1_packs a b k l v status (Err stop) performs tells files line told now status_is = absurd (omega (arith, tells.0, stop_status stop))
e1_packs a b k l v status (Ok done) performs tells files line told now status_is =
    let same : Some line ≡ Some (packed_line (bytes_in files payload_name)) = performs.outputs 0 (lit< tt) files told (Some line) now in
    let is : line ≡ packed_line (bytes_in files payload_name) = cc in
    subst (IsPacked (bytes_in files payload_name)) (sym is) (line_is_packed (bytes_in files payload_name) (payload_whole e1_codec (files payload_name) done (performs.cause files told)))

ds1_packs : (form : Frame1) (a b : ShelfState) (k l : SinkState) (v : List State) (status : ℕ) (answer : Answer) → Performs (packing (ds1_codec form)) a b answer → IsTold v answer k l status → Packs (Some (Ds1Pack form)) a b status
ds1_packs form a b k l v status (Err stop) performs tells files line told now status_is octets = absurd (omega (arith, tells.0, stop_status stop))
ds1_packs form a b k l v status (Ok done) performs tells files line told now status_is octets =
    let same : Some line ≡ Some (ds1_line form (bytes_in files payload_name)) = performs.outputs 0 (lit< tt) files told (Some line) now in
    let is : line ≡ ds1_line form (bytes_in files payload_name) = cc in
    subst (IsDs1Packed form (bytes_in files payload_name)) (sym is)
    (ds1_line_is_packed form (bytes_in files payload_name) (payload_whole (ds1_codec form) (files payload_name) done (performs.cause files told)) octets)

pub packs : (command : Option Command) (a b : ShelfState) (k l : SinkState) (v w : List State) (status : ℕ) → Runs command a b k l v w status → Packs command a b status
packs (Some E1Pack) a b k l v w status runs = e1_packs a b k l w status runs.answer runs.does runs.told
packs (Some (Ds1Pack form)) a b k l v w status runs = ds1_packs form a b k l w status runs.answer runs.does runs.told
packs _ a b k l v w status runs = tt
