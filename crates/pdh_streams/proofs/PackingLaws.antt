-- What packing comes to, and what it leaves of the files.
use Rattle.std.proofs.Common.{◌≡◌, ℕ, ◌/◌, ◌%◌, ◌==◌, ◌<◌, ◌≤◌, nat_lt, List, [], Option, None, Some, Ok, Err, true, false, length, refl, ap, sym, subst, ◌∙◌, inl, inr, arith, lit<}
use Rattle.std.specs.Prelude.{unwrap_or}
use Rattle.std.proofs.lemmas.Bool.{cases_eq, cases_lt}
use Rattle.std.proofs.lemmas.Bool.Decides.{nat_tests}
use Rattle.pdh_shape.specs.OwnNumbers.{most_frames}
use Rattle.pdh_edge.specs.Files.{ShelfState, Looks, Touches, Starts, Appends, Holds}
use Rattle.pdh_answers.specs.Names.{name_of, payload_name}
use Rattle.pdh_answers.specs.Answer.{Answer, and_then}
use Rattle.pdh_answers.specs.declared.file.File.TheVariants.{Payload}
use Rattle.pdh_answers.specs.declared.answer.Done.{Done}
use Rattle.pdh_answers.specs.declared.answer.Stop.{Stop}
use Rattle.pdh_answers.specs.declared.answer.Stop.TheVariants.{ManyFrames, NotWhole}
use Rattle.pdh_runner.specs.Performing.{Performs}
use Rattle.pdh_runner.specs.Refusing.{Refuses}
use Rattle.pdh_runner.specs.Reading.{HasLength, IsSizeStop, IsReadStop}
use Rattle.pdh_runner.specs.Writing.{IsStartStop, IsAppendStop}
use Rattle.pdh_runner.specs.LineSteps.{BeginsWith}
use Rattle.pdh_runner.proofs.Refusing.{refuses_since}
use Rattle.pdh_runner.proofs.OneInput.{RefusesAll, ServesAll, missing_refuses, length_refuses, reading_refuses, comes_of_bytes, goes_on_by_bytes, bytes_are}
use Rattle.pdh_runner.proofs.OneOutput.{HasOutput, Writes, start_refused, append_refused, writing_done}
use Rattle.pdh_streams.specs.Codecs.{FrameCodec, frames_filled, payload_of, packed_answer, packing}

-- the payload was read, and this line is to be written
pub record IsRead (codec : FrameCodec) (a b : ShelfState) (payload line : List ℕ) : Type 0 where
  pub looks : Looks a b
  pub same : b.counts ≡ a.counts
  pub holds : Holds (a.told payload_name) payload
  pub served : payload_of codec (Some payload) ≡ Ok payload
  pub line_is : line ≡ codec.packed payload

module _ (codec : FrameCodec) where
  pub begins : BeginsWith (packing codec) Payload (payload_of codec) (packed_answer codec)
  unfolding packed_answer
  begins = record { some = lit< tt; first = refl; missing = refl; comes = λ files. refl; due = λ files on. on; reaches = λ payload. refl }

  -- ---- what a length decides

  long_payload : (octets : ℕ) → most_frames < octets / codec.frame_octets → RefusesAll (payload_of codec) octets (ManyFrames (octets / codec.frame_octets))
  long_payload octets many content long =
      let same : frames_filled codec content ≡ octets / codec.frame_octets = ap (λ (n : ℕ). n / codec.frame_octets) long in
      let test : nat_lt most_frames (frames_filled codec content) ≡ true = grind (arith, nat_tests) in
      rw test (ap (λ (n : ℕ). Err (ManyFrames n)) same)

  cut_payload : (octets : ℕ) → octets / codec.frame_octets ≤ most_frames → (octets % codec.whole_octets ≡ 0 → ⊥) → RefusesAll (payload_of codec) octets (NotWhole octets)
  cut_payload octets few cut content long =
      let same : frames_filled codec content ≡ octets / codec.frame_octets = ap (λ (n : ℕ). n / codec.frame_octets) long in
      let test : nat_lt most_frames (frames_filled codec content) ≡ false = grind (arith, nat_tests) in
      let rest : length content % codec.whole_octets ≡ octets % codec.whole_octets = ap (λ (n : ℕ). n % codec.whole_octets) long in
      let test' : length content % codec.whole_octets == 0 ≡ false = grind (arith, nat_tests) in
      rw test (rw test' (ap (λ (n : ℕ). Err (NotWhole n)) long))

  pub whole_payload : (octets : ℕ) → octets / codec.frame_octets ≤ most_frames → octets % codec.whole_octets ≡ 0 → ServesAll (payload_of codec) octets
  whole_payload octets few whole content long =
      let same : frames_filled codec content ≡ octets / codec.frame_octets = ap (λ (n : ℕ). n / codec.frame_octets) long in
      let test : nat_lt most_frames (frames_filled codec content) ≡ false = grind (arith, nat_tests) in
      let rest : length content % codec.whole_octets ≡ octets % codec.whole_octets = ap (λ (n : ℕ). n % codec.whole_octets) long in
      let test' : length content % codec.whole_octets == 0 ≡ true = grind (arith, nat_tests) in
      rw test (rw test' refl)

  -- ---- the payload that is read

  pub payload_missing : (a b : ShelfState) (stop : Stop) → IsSizeStop Payload a b stop → Refuses (packing codec) a b stop
  payload_missing a b stop cause = missing_refuses (packing codec) Payload (payload_of codec) (packed_answer codec) a b stop begins cause

  pub payload_long : (a b : ShelfState) (octets frames : ℕ) → Looks a b → b.counts ≡ a.counts → HasLength payload_name octets b → frames ≡ octets / codec.frame_octets → most_frames < frames → Refuses (packing codec) a b (ManyFrames frames)
  payload_long a b octets frames looks same known is many =
      refuses_since (packing codec) a b b (ManyFrames frames) looks same
      (subst (λ (n : ℕ). Refuses (packing codec) b b (ManyFrames n)) (sym is)
      (length_refuses (packing codec) Payload (payload_of codec) (packed_answer codec) b octets (ManyFrames (octets / codec.frame_octets)) begins known (long_payload octets (subst (λ (n : ℕ). most_frames < n) is many))))

  pub payload_cut : (a b : ShelfState) (octets : ℕ) → Looks a b → b.counts ≡ a.counts → HasLength payload_name octets b → octets / codec.frame_octets ≤ most_frames → (octets % codec.whole_octets ≡ 0 → ⊥) → Refuses (packing codec) a b (NotWhole octets)
  payload_cut a b octets looks same known few cut =
      refuses_since (packing codec) a b b (NotWhole octets) looks same
      (length_refuses (packing codec) Payload (payload_of codec) (packed_answer codec) b octets (NotWhole octets) begins known (cut_payload octets few cut))

  pub payload_unread : (a b c : ShelfState) (octets : ℕ) (stop : Stop) → Looks a b → b.counts ≡ a.counts → HasLength payload_name octets b → octets / codec.frame_octets ≤ most_frames → octets % codec.whole_octets ≡ 0 → codec.in_run Payload ≡ false → IsReadStop Payload b c stop → Refuses (packing codec) a c stop
  payload_unread a b c octets stop looks same known few whole early cause =
      refuses_since (packing codec) a b c stop looks same
      (reading_refuses (packing codec) Payload (payload_of codec) (packed_answer codec) b c octets stop begins early known (whole_payload octets few whole) cause)

  -- ---- what is written

  output : HasOutput (packing codec) codec.file
  output = record { count = refl; name = refl }

  -- it was packed
  pub is_read : (a b : ShelfState) (payload same made line : List ℕ) → Looks a b → b.counts ≡ a.counts → Holds (a.told payload_name) payload → payload_of codec (Some payload) ≡ Ok payload
      → made ≡ codec.packed same → same ≡ payload → line ≡ made → IsRead codec a b payload line
  is_read a b payload same made line looks counts holds served is e written = record {
    looks = looks;
    same = counts;
    holds = holds;
    served = served;
    line_is = written ∙ is ∙ ap codec.packed e;
  }

  writes : (a b : ShelfState) (payload line : List ℕ) → IsRead codec a b payload line → Writes (packing codec) a b line
  writes a b payload line is = record {
    looks = is.looks;
    same = is.same;
    goes_on = goes_on_by_bytes (packing codec) Payload (payload_of codec) (packed_answer codec) a payload begins is.holds is.served;
    content = λ files told. is.line_is ∙ ap (λ (h : Option (List ℕ)). codec.packed (unwrap_or h [])) (sym (bytes_are (packing codec) Payload (payload_of codec) (packed_answer codec) a payload begins is.holds files told));
  }

  pub pack_start_refused : (a b c : ShelfState) (payload line : List ℕ) (stop : Stop) → IsRead codec a b payload line → Touches (name_of codec.file) b c → IsStartStop codec.file b c stop → Performs (packing codec) a c (Err stop)
  pack_start_refused a b c payload line stop is touches cause =
      start_refused (packing codec) codec.file a b c stop output is.looks is.same (writes a b payload line is).goes_on touches cause

  pub pack_append_refused : (a b c d : ShelfState) (payload line : List ℕ) (stop : Stop) → IsRead codec a b payload line → Touches (name_of codec.file) b c → Starts (name_of codec.file) b c →
      Touches (name_of codec.file) c d → IsAppendStop codec.file line c d stop → Performs (packing codec) a d (Err stop)
  pack_append_refused a b c d payload line stop is starts started touches cause =
      append_refused (packing codec) codec.file a b c d line stop output (writes a b payload line is) starts started touches cause

  pub pack_done : (a b c d : ShelfState) (payload line : List ℕ) (octets : ℕ) → IsRead codec a b payload line → octets ≡ length payload →
      Touches (name_of codec.file) b c → Starts (name_of codec.file) b c → Touches (name_of codec.file) c d → Appends (name_of codec.file) line c d → Performs (packing codec) a d (Ok (codec.pack_says octets))
  unfolding packed_answer
  pack_done a b c d payload line octets is count starts started touches appends =
      writing_done (packing codec) codec.file a b c d line (codec.pack_says octets) output (writes a b payload line is) starts started touches appends
      (λ files told. ap (λ (n : ℕ). Ok (codec.pack_says n)) count ∙ sym (comes_of_bytes (packing codec) Payload (payload_of codec) (packed_answer codec) a payload begins is.holds is.served files told))

  -- where the payload was packed, it is whole
  pub payload_whole : (held : Option (List ℕ)) (done : Done) → Ok done ≡ and_then (payload_of codec held) (packed_answer codec) → length (unwrap_or held []) % codec.whole_octets ≡ 0
  payload_whole None done e = absurd (cc)
  payload_whole (Some payload) done e = elim (cases_eq (length payload % codec.whole_octets) 0) [
    | inl whole ↦ whole
    | inr cut ↦ elim (cases_lt most_frames (length payload / codec.frame_octets)) [
      | inl many ↦
          let wrong : ◌≡◌ {A = Answer} (Ok done) (Err (ManyFrames (length payload / codec.frame_octets))) = e ∙ ap (λ r. and_then r (packed_answer codec)) (long_payload (length payload) many payload refl) in
          absurd (cc)
      | inr few ↦
          let wrong : ◌≡◌ {A = Answer} (Ok done) (Err (NotWhole (length payload))) = e ∙ ap (λ r. and_then r (packed_answer codec)) (cut_payload (length payload) (omega arith) cut payload refl) in
          absurd (cc)
    ]
  ]
