-- What unpacking comes to, and what it leaves of the files.
use Rattle.std.proofs.Common.{◌≡◌, ◌≢◌, ℕ, ◌*◌, ◌/◌, ◌==◌, ◌<◌, ◌≤◌, nat_lt, List, [], Option, Some, Ok, Err, true, false, length, refl, ap, sym, subst, ◌∙◌, inl, inr, arith, lit<}
use Rattle.std.specs.Prelude.{unwrap_or}
use Rattle.std.proofs.lemmas.Bool.{cases_eq}
use Rattle.std.proofs.lemmas.Bool.Decides.{nat_tests}
use Rattle.pdh_shape.specs.OwnNumbers.{most_frames}
use Rattle.pdh_edge.specs.Files.{ShelfState, Looks, Touches, Starts, Appends, Holds}
use Rattle.pdh_answers.specs.Names.{name_of, payload_out_name}
use Rattle.pdh_answers.specs.declared.file.File.TheVariants.{PayloadOut}
use Rattle.pdh_answers.specs.declared.answer.Stop.{Stop}
use Rattle.pdh_answers.specs.declared.answer.Stop.TheVariants.{ManyFrames, NoAlignment}
use Rattle.pdh_runner.specs.Operation.{reaches_outputs}
use Rattle.pdh_runner.specs.Performing.{Performs}
use Rattle.pdh_runner.specs.Refusing.{Refuses}
use Rattle.pdh_runner.specs.Reading.{HasLength, IsSizeStop, IsReadStop}
use Rattle.pdh_runner.specs.Writing.{IsStartStop, IsAppendStop}
use Rattle.pdh_runner.specs.LineSteps.{BeginsWith}
use Rattle.pdh_runner.proofs.Refusing.{refuses_since}
use Rattle.pdh_runner.proofs.OneInput.{RefusesAll, ServesAll, missing_refuses, length_refuses, reading_refuses, comes_of_bytes, goes_on_by_bytes, bytes_are}
use Rattle.pdh_runner.proofs.OneOutput.{HasOutput, Writes, start_refused, append_refused, writing_done, whole, others, touches_again}
use Rattle.pdh_streams.specs.declared.codec.Found.{Found}
use Rattle.pdh_streams.specs.declared.delivering.Unpacked.{Unpacked}
use Rattle.pdh_streams.specs.Codecs.{FrameCodec, frames_framed, framed_of, unpacked_payload, found_in, unpacked_answer, unpacking}
use Rattle.pdh_streams.specs.Steps.{RefusesFramed, IsUnpacked}

-- the line was read, and this payload is to be written
pub record IsRead (codec : FrameCodec) (a b : ShelfState) (line payload : List ℕ) (found : Found) : Type 0 where
  pub looks : Looks a b
  pub same : b.counts ≡ a.counts
  pub holds : Holds (a.told (name_of codec.file)) line
  pub served : framed_of codec (Some line) ≡ Ok line
  pub payload_is : payload ≡ unpacked_payload codec line
  pub found_is : found ≡ found_in codec line

module _ (codec : FrameCodec) where
  -- what a line comes to by what was delivered of it
  unpacked_none : (line : List ℕ) → (found_in codec line).delivered ≡ 0 → unpacked_answer codec line ≡ Err (NoAlignment (8 * length line))
  unfolding unpacked_answer
  unpacked_none line none = let test : (found_in codec line).delivered == 0 ≡ true = grind (arith, nat_tests) in rw test refl

  unpacked_some : (line : List ℕ) → (found_in codec line).delivered ≢ 0 → unpacked_answer codec line ≡ Ok (codec.unpack_says (found_in codec line))
  unfolding unpacked_answer
  unpacked_some line some = let test : (found_in codec line).delivered == 0 ≡ false = grind (arith, nat_tests) in rw test refl

  unpacked_reaches : (line : List ℕ) → reaches_outputs (unpacked_answer codec line) ≡ true
  unpacked_reaches line = elim (cases_eq (found_in codec line).delivered 0) [
    | inl none ↦ ap reaches_outputs (unpacked_none line none)
    | inr some ↦ ap reaches_outputs (unpacked_some line some)
  ]

  pub begins : BeginsWith (unpacking codec) codec.file (framed_of codec) (unpacked_answer codec)
  begins = record { some = lit< tt; first = refl; missing = refl; comes = λ files. refl; due = λ files on. on; reaches = unpacked_reaches }

  -- ---- what a length decides

  long_framed : (octets : ℕ) → most_frames < 8 * octets / codec.frame_bits → RefusesAll (framed_of codec) octets (ManyFrames (8 * octets / codec.frame_bits))
  long_framed octets many content long =
      let same : frames_framed codec content ≡ 8 * octets / codec.frame_bits = ap (λ (n : ℕ). 8 * n / codec.frame_bits) long in
      let test : nat_lt most_frames (frames_framed codec content) ≡ true = grind (arith, nat_tests) in
      rw test (ap (λ (n : ℕ). Err (ManyFrames n)) same)

  pub whole_framed : (octets : ℕ) → 8 * octets / codec.frame_bits ≤ most_frames → ServesAll (framed_of codec) octets
  whole_framed octets few content long =
      let same : frames_framed codec content ≡ 8 * octets / codec.frame_bits = ap (λ (n : ℕ). 8 * n / codec.frame_bits) long in
      let test : nat_lt most_frames (frames_framed codec content) ≡ false = grind (arith, nat_tests) in
      rw test refl

  -- ---- the line that is read

  -- whichever command begins with it
  pub framed_missing : (a b : ShelfState) (stop : Stop) → IsSizeStop codec.file a b stop → RefusesFramed codec a b stop
  framed_missing a b stop cause operation next first = missing_refuses operation codec.file (framed_of codec) next a b stop first cause

  pub framed_long : (a b : ShelfState) (octets frames : ℕ) → Looks a b → b.counts ≡ a.counts → HasLength (name_of codec.file) octets b → frames ≡ 8 * octets / codec.frame_bits → most_frames < frames → RefusesFramed codec a b (ManyFrames frames)
  framed_long a b octets frames looks same known is many operation next first =
      refuses_since operation a b b (ManyFrames frames) looks same
      (subst (λ (n : ℕ). Refuses operation b b (ManyFrames n)) (sym is)
      (length_refuses operation codec.file (framed_of codec) next b octets (ManyFrames (8 * octets / codec.frame_bits)) first known (long_framed octets (subst (λ (n : ℕ). most_frames < n) is many))))

  -- it refuses unpacking
  pub unpacking_refused : (a b : ShelfState) (stop : Stop) → RefusesFramed codec a b stop → Refuses (unpacking codec) a b stop
  unpacking_refused a b stop refused = refused (unpacking codec) (unpacked_answer codec) begins

  pub framed_unread : (a b c : ShelfState) (octets : ℕ) (stop : Stop) → Looks a b → b.counts ≡ a.counts → HasLength (name_of codec.file) octets b → 8 * octets / codec.frame_bits ≤ most_frames → codec.in_run codec.file ≡ false → IsReadStop codec.file b c stop → Refuses (unpacking codec) a c stop
  framed_unread a b c octets stop looks same known few early cause =
      refuses_since (unpacking codec) a b c stop looks same
      (reading_refuses (unpacking codec) codec.file (framed_of codec) (unpacked_answer codec) b c octets stop begins early known (whole_framed octets few) cause)

  -- ---- what is written

  output : HasOutput (unpacking codec) PayloadOut
  output = record { count = refl; name = refl }

  -- it was unpacked
  pub is_read : (a b : ShelfState) (line same payload : List ℕ) (unpacked : Unpacked) → Looks a b → b.counts ≡ a.counts → Holds (a.told (name_of codec.file)) line → framed_of codec (Some line) ≡ Ok line
      → IsUnpacked codec same unpacked → same ≡ line → payload ≡ unpacked.payload.items → IsRead codec a b line payload unpacked.found
  is_read a b line same payload unpacked looks counts holds served is e written = record {
    looks = looks;
    same = counts;
    holds = holds;
    served = served;
    payload_is = written ∙ is.payload_is ∙ ap (unpacked_payload codec) e;
    found_is = is.found_is ∙ ap (found_in codec) e;
  }

  writes : (a b : ShelfState) (line payload : List ℕ) (found : Found) → IsRead codec a b line payload found → Writes (unpacking codec) a b payload
  writes a b line payload found is = record {
    looks = is.looks;
    same = is.same;
    goes_on = goes_on_by_bytes (unpacking codec) codec.file (framed_of codec) (unpacked_answer codec) a line begins is.holds is.served;
    content = λ files told. is.payload_is ∙ ap (λ (h : Option (List ℕ)). unpacked_payload codec (unwrap_or h [])) (sym (bytes_are (unpacking codec) codec.file (framed_of codec) (unpacked_answer codec) a line begins is.holds files told));
  }

  pub unpack_start_refused : (a b c : ShelfState) (line payload : List ℕ) (found : Found) (stop : Stop) → IsRead codec a b line payload found → Touches payload_out_name b c → IsStartStop PayloadOut b c stop → Performs (unpacking codec) a c (Err stop)
  unpack_start_refused a b c line payload found stop is touches cause =
      start_refused (unpacking codec) PayloadOut a b c stop output is.looks is.same (writes a b line payload found is).goes_on touches cause

  pub unpack_append_refused : (a b c d : ShelfState) (line payload : List ℕ) (found : Found) (stop : Stop) → IsRead codec a b line payload found → Touches payload_out_name b c → Starts payload_out_name b c → Touches payload_out_name c d → IsAppendStop PayloadOut payload c d stop → Performs (unpacking codec) a d (Err stop)
  unpack_append_refused a b c d line payload found stop is starts started touches cause =
      append_refused (unpacking codec) PayloadOut a b c d payload stop output (writes a b line payload found is) starts started touches cause

  pub unpack_done : (a b c d : ShelfState) (line payload : List ℕ) (found : Found) → IsRead codec a b line payload found → found.delivered ≢ 0 → Touches payload_out_name b c → Starts payload_out_name b c → Touches payload_out_name c d → Appends payload_out_name payload c d → Performs (unpacking codec) a d (Ok (codec.unpack_says found))
  unpack_done a b c d line payload found is some starts started touches appends =
      let delivered : (found_in codec line).delivered ≢ 0 = λ none. some (ap (λ (x : Found). x.delivered) is.found_is ∙ none) in
      writing_done (unpacking codec) PayloadOut a b c d payload (codec.unpack_says found) output (writes a b line payload found is) starts started touches appends
      (λ files told. ap (λ (x : Found). Ok (codec.unpack_says x)) is.found_is ∙ sym (comes_of_bytes (unpacking codec) codec.file (framed_of codec) (unpacked_answer codec) a line begins is.holds is.served files told ∙ unpacked_some line delivered))

  -- nothing was delivered
  pub unpack_none : (a b c d : ShelfState) (line payload : List ℕ) (found : Found) (bits : ℕ) → IsRead codec a b line payload found → found.delivered ≡ 0 → bits ≡ 8 * length line → Touches payload_out_name b c → Starts payload_out_name b c → Touches payload_out_name c d → Appends payload_out_name payload c d → Performs (unpacking codec) a d (Err (NoAlignment bits))
  unpack_none a b c d line payload found bits is none long starts started touches appends =
      let put : Writes (unpacking codec) a b payload = writes a b line payload found is in
      let delivered : (found_in codec line).delivered ≡ 0 = sym (ap (λ (x : Found). x.delivered) is.found_is) ∙ none in
      record {
        cause = λ files told. ap (λ (n : ℕ). Err (NoAlignment n)) long ∙ sym (comes_of_bytes (unpacking codec) codec.file (framed_of codec) (unpacked_answer codec) a line begins is.holds is.served files told ∙ unpacked_none line delivered);
        outputs = whole (unpacking codec) PayloadOut a b c d payload output put started appends;
        others = others (unpacking codec) PayloadOut a b d output is.looks (touches_again payload_out_name b c d starts touches);
        counted = appends.succeeds.counts ∙ started.succeeds.counts ∙ is.same;
      }
