-- What the steps of `duplex` come to.
use Rattle.std.proofs.Common.{◌≡◌, ℕ, zero, suc, ◌*◌, ◌<◌, ◌≤◌, nat_lt, List, [], Option, None, Some, Result, Ok, Err, true, false, length, refl, ap, sym, subst, ◌∙◌, inl, inr, arith, lit<}
use Rattle.std.specs.Prelude.{is_none, unwrap_or}
use Rattle.std.specs.Result.{result_unwrap_or}
use Rattle.std.proofs.Math.Nat.{mul_assoc, mul_comm}
use Rattle.std.proofs.lemmas.Bool.Decides.{nat_tests}
use Rattle.pdh_shape.specs.OwnNumbers.{most_drilled}
use Rattle.pdh_edge.specs.Files.{ShelfState, Looks, Holds}
use Rattle.pdh_edge.specs.Files.Told.{Known}
use Rattle.pdh_script.specs.declared.fault.ScriptFault.{ScriptFault}
use Rattle.pdh_script.specs.declared.fault.ScriptFault.TheVariants.{TooLong, BadRow, PastEnd, Memory as NoMemory}
use Rattle.pdh_script.specs.Scripts.{Row}
use Rattle.pdh_script.specs.ScriptText.{most_script_bytes, script_of, Fails}
use Rattle.pdh_nesting.specs.Chains.{top_len}
use Rattle.pdh_chain.specs.Chains.{shapes_of}
use Rattle.pdh_chain.specs.declared.chain.Chain.{Chain}
use Rattle.pdh_duplex.specs.Session.{setting_with}
use Rattle.pdh_answers.specs.Names.{name_of, west_name, east_name}
use Rattle.pdh_answers.specs.Answer.{Answer, and_then, script_or_stop, stop_of_script}
use Rattle.pdh_answers.specs.declared.answer.Stop.{Stop}
use Rattle.pdh_answers.specs.declared.answer.Stop.TheVariants.{Missing, ManyFrames}
use Rattle.pdh_answers.specs.declared.file.File.{File}
use Rattle.pdh_answers.specs.declared.file.File.TheVariants.{West, East}
use Rattle.pdh_runner.specs.Reading.{HasLength, IsSizeStop}
use Rattle.pdh_runner.specs.Operation.{AreTold, OfInputs, AreHeld, IsReadDue, all_held, Files}
use Rattle.pdh_runner.specs.Performing.{Comes}
use Rattle.pdh_runner.specs.Refusing.{Refuses}
use Rattle.pdh_runner.proofs.Touching.{has_length_still, looks_same}
use Rattle.pdh_runner.proofs.Refusing.{size_refuses, read_refuses, refuses_since}
use Rattle.pdh_runner.proofs.Lengths.{is_held, length_is}
use Rattle.pdh_runner.proofs.OneInput.{held_of}
use Rattle.pdh_linking.specs.Duplex.{line_bits, rows_or_stop, rows_in, linked, duplex_inputs, limited, ready, scripts_come, is_short, duplexing}
use Rattle.pdh_linking.specs.DuplexSteps.{HasSizes, ScriptIs, IsScriptStop, AreScripts}
use Rattle.pdh_linking.specs.declared.duplexing.Sizes.{Sizes}
use Rattle.pdh_linking.specs.declared.duplexing.Scripts.{Scripts}

-- the bits of so many frames, by the bytes of one
pub bits_are : (chain : Chain) (frames bytes : ℕ) → top_len (shapes_of chain) ≡ 8 * bytes → 8 * frames * bytes ≡ line_bits chain frames
bits_are chain frames bytes long = ap (λ n. n * bytes) (mul_comm 8 frames) ∙ mul_assoc frames 8 bytes ∙ ap (λ n. frames * n) (sym long)

-- ---- a script

-- a text that is too long has that fault
pub long_is : (file : File) (bits bytes : ℕ) (a : ShelfState) → HasLength (name_of file) bytes a → most_script_bytes < bytes → ScriptIs file bits a (Err (TooLong bytes))
unfolding script_of
long_is file bits bytes a long many text told =
    let found = held_of bytes (Some text) (long.told (Some text) told) in
    let len : length text ≡ bytes = cc in
    let test : nat_lt most_script_bytes (length text) ≡ true = grind (arith, nat_tests) in
    rw (test, len) refl

-- a text that was read has what it was judged to have
pub read_is : (file : File) (bits : ℕ) (a : ShelfState) (read : List ℕ) (judged : Result (List Row) ScriptFault) → Holds (a.told (name_of file)) read → script_of bits read ≡ judged → ScriptIs file bits a judged
read_is file bits a read judged holds said text told =
    let same : Some text ≡ Some read = holds (Some text) told in
    let is : text ≡ read = cc in
    ap (script_of bits) is ∙ said

-- a text that was read isn't a script, or memory was wanting
pub fault_stops : (file : File) (bits bytes : ℕ) (a b : ShelfState) (read : List ℕ) (fault : ScriptFault) → bytes ≤ most_script_bytes → Holds (a.told (name_of file)) read → Fails fault (script_of bits read) → IsScriptStop file bits bytes a b (stop_of_script fault)
fault_stops file bits bytes a b read NoMemory short holds said = inl (short, tt)
fault_stops file bits bytes a b read (TooLong len) short holds said = inr (TooLong len, (refl, read_is file bits a read (Err (TooLong len)) holds said))
fault_stops file bits bytes a b read (BadRow line) short holds said = inr (BadRow line, (refl, read_is file bits a read (Err (BadRow line)) holds said))
fault_stops file bits bytes a b read (PastEnd line) short holds said = inr (PastEnd line, (refl, read_is file bits a read (Err (PastEnd line)) holds said))

-- what is known of a script is so before files were looked at
pub script_before : (file : File) (bits : ℕ) (a b : ShelfState) (judged : Result (List Row) ScriptFault) → Looks a b → ScriptIs file bits b judged → ScriptIs file bits a judged
script_before file bits a b judged looks is text told = is text (looks_same a b (name_of file) looks ∙ told)

-- and after
pub script_still : (file : File) (bits : ℕ) (a b : ShelfState) (judged : Result (List Row) ScriptFault) → Looks a b → ScriptIs file bits a judged → ScriptIs file bits b judged
script_still file bits a b judged looks is text told = is text (sym (looks_same a b (name_of file) looks) ∙ told)

-- the sizes are known still after the files were looked at again
pub sizes_since : (frames : ℕ) (sizes : Sizes) (a b : ShelfState) → Looks a b → HasSizes frames sizes a → HasSizes frames sizes b
sizes_since frames sizes a b looks has = record {
  west = has_length_still west_name a b sizes.west looks has.west;
  east = has_length_still east_name a b sizes.east looks has.east;
  few = has.few;
}

-- the text of a file that is held, as the command takes it
module _ (chain : Chain) (frames : ℕ) (file : File) (a : ShelfState) (bytes : ℕ) (long : HasLength (name_of file) bytes a) (files : Files) (told : a.told (name_of file) ≡ Known (files (name_of file))) where
  pub judged_is : (judged : Result (List Row) ScriptFault) → ScriptIs file (line_bits chain frames) a judged → rows_or_stop chain frames file files ≡ script_or_stop judged
  judged_is judged is =
      let held = held_of bytes (files (name_of file)) (long.told (files (name_of file)) told) in
      ap (λ (h : Option (List ℕ)). script_or_stop (script_of (line_bits chain frames) (unwrap_or h []))) held.1
      ∙ ap script_or_stop (is held.0 (told ∙ ap Known held.1))

  pub short_is : bytes ≤ most_script_bytes → is_short file files ≡ true
  short_is short = let len = length_is a (name_of file) bytes files long told in grind (arith, nat_tests)

-- ---- the steps

module _ (chain : Chain) (seed frames : ℕ) where
  west_told : (a : ShelfState) (files : Files) → AreTold (duplexing chain seed frames) a.told files → a.told west_name ≡ Known (files west_name)
  west_told a files told = told 0 (lit< tt)

  east_told : (a : ShelfState) (files : Files) → AreTold (duplexing chain seed frames) a.told files → a.told east_name ≡ Known (files east_name)
  east_told a files told = told 1 (lit< tt)

  west_held : (a : ShelfState) (bytes : ℕ) (files : Files) → HasLength west_name bytes a → AreTold (duplexing chain seed frames) a.told files → is_none (files west_name) ≡ false
  west_held a bytes files known told = is_held a west_name bytes (files west_name) known (west_told a files told)

  east_held : (a : ShelfState) (bytes : ℕ) (files : Files) → HasLength east_name bytes a → AreTold (duplexing chain seed frames) a.told files → is_none (files east_name) ≡ false
  east_held a bytes files known told = is_held a east_name bytes (files east_name) known (east_told a files told)

  -- where something refuses before the scripts, the command comes to that
  not_ready : (files : Files) (stop : Stop) → ready frames files ≡ Err stop → ◌≡◌ {A = Answer} (Err stop) ((duplexing chain seed frames).comes_to files)
  not_ready files stop e = sym (ap (λ r. and_then r (λ _. scripts_come chain seed frames files)) e)

  missing : (files : Files) (file : File) → all_held duplex_inputs files ≡ Err (Missing file) → ◌≡◌ {A = Answer} (Err (Missing file)) ((duplexing chain seed frames).comes_to files)
  missing files file e = not_ready files (Missing file) (ap (λ r. and_then r (λ _. limited frames)) e)

  no_west : (files : Files) → files west_name ≡ None → all_held duplex_inputs files ≡ Err (Missing West)
  no_west files none = let e : is_none (files west_name) ≡ true = ap is_none none in rw e refl

  no_east : (files : Files) → is_none (files west_name) ≡ false → files east_name ≡ None → all_held duplex_inputs files ≡ Err (Missing East)
  no_east files west none = let e : is_none (files east_name) ≡ true = ap is_none none in rw (west, e) refl

  both_held : (files : Files) → is_none (files west_name) ≡ false → is_none (files east_name) ≡ false → all_held duplex_inputs files ≡ Ok tt
  both_held files west east = rw (west, east) refl

  -- ---- the sizes

  pub west_size_refuses : (a b : ShelfState) (stop : Stop) → IsSizeStop West a b stop → Refuses (duplexing chain seed frames) a b stop
  west_size_refuses a b stop cause =
      size_refuses (duplexing chain seed frames) West 0 a b stop (lit< tt) refl (λ files told i h. absurd (omega arith))
      (λ none files told. missing files West (no_west files (none (files west_name) (west_told a files told)))) cause

  first_held : (a : ShelfState) (bytes : ℕ) → HasLength west_name bytes a → OfInputs (duplexing chain seed frames) a (AreHeld (duplexing chain seed frames) 1)
  first_held a bytes known files told zero h = west_held a bytes files known told
  first_held a bytes known files told (suc i) h = absurd (omega arith)

  pub east_size_refuses : (a s b : ShelfState) (bytes : ℕ) (stop : Stop) → Looks a s → s.counts ≡ a.counts → HasLength west_name bytes s → IsSizeStop East s b stop → Refuses (duplexing chain seed frames) a b stop
  east_size_refuses a s b bytes stop looks same known cause =
      refuses_since (duplexing chain seed frames) a s b stop looks same
      (size_refuses (duplexing chain seed frames) East 1 s b stop (lit< tt) refl (first_held s bytes known)
      (λ none files told. missing files East (no_east files (west_held s bytes files known told) (none (files east_name) (east_told s files told)))) cause)

  -- both are held
  held_now : (a : ShelfState) (west east : ℕ) (files : Files) → HasLength west_name west a → HasLength east_name east a → AreTold (duplexing chain seed frames) a.told files → all_held duplex_inputs files ≡ Ok tt
  held_now a west east files west_known east_known told = both_held files (west_held a west files west_known told) (east_held a east files east_known told)

  -- too many frames
  pub many_refused : (a s b : ShelfState) (west east : ℕ) → Looks a s → s.counts ≡ a.counts → Looks s b → b.counts ≡ s.counts → HasLength west_name west s → HasLength east_name east b → most_drilled < frames → Refuses (duplexing chain seed frames) a b (ManyFrames frames)
  many_refused a s b west east first same second still west_known east_known many =
      refuses_since (duplexing chain seed frames) a s b (ManyFrames frames) first same
      (refuses_since (duplexing chain seed frames) s b b (ManyFrames frames) second still
      (λ files told.
      let test : nat_lt most_drilled frames ≡ true = grind (arith, nat_tests) in
      not_ready files (ManyFrames frames)
      (ap (λ r. and_then r (λ _. limited frames)) (held_now b west east files (has_length_still west_name s b west second west_known) east_known told)
      ∙ rw test refl)))

  -- ---- the scripts

  -- nothing refuses before them
  is_ready : (a : ShelfState) (sizes : Sizes) (files : Files) → HasSizes frames sizes a → AreTold (duplexing chain seed frames) a.told files → ready frames files ≡ Ok tt
  is_ready a sizes files has told =
      let few = has.few in
      let test : nat_lt most_drilled frames ≡ false = grind (arith, nat_tests) in
      ap (λ r. and_then r (λ _. limited frames)) (held_now a sizes.west sizes.east files has.west has.east told)
      ∙ rw test refl

  -- so the command comes to what they come to
  goes_on : (a : ShelfState) (sizes : Sizes) (files : Files) → HasSizes frames sizes a → AreTold (duplexing chain seed frames) a.told files → (duplexing chain seed frames).comes_to files ≡ scripts_come chain seed frames files
  goes_on a sizes files has told = ap (λ r. and_then r (λ _. scripts_come chain seed frames files)) (is_ready a sizes files has told)

  west_judged : (a : ShelfState) (sizes : Sizes) (files : Files) (judged : Result (List Row) ScriptFault) → HasSizes frames sizes a → ScriptIs West (line_bits chain frames) a judged → AreTold (duplexing chain seed frames) a.told files → rows_or_stop chain frames West files ≡ script_or_stop judged
  west_judged a sizes files judged has is told = judged_is chain frames West a sizes.west has.west files (west_told a files told) judged is

  east_judged : (a : ShelfState) (sizes : Sizes) (files : Files) (judged : Result (List Row) ScriptFault) → HasSizes frames sizes a → ScriptIs East (line_bits chain frames) a judged → AreTold (duplexing chain seed frames) a.told files → rows_or_stop chain frames East files ≡ script_or_stop judged
  east_judged a sizes files judged has is told = judged_is chain frames East a sizes.east has.east files (east_told a files told) judged is

  -- the first has a fault
  west_fault : (a : ShelfState) (sizes : Sizes) (fault : ScriptFault) → HasSizes frames sizes a → ScriptIs West (line_bits chain frames) a (Err fault) → Comes (duplexing chain seed frames) a (Err (stop_of_script fault))
  west_fault a sizes fault has is files told =
      sym (goes_on a sizes files has told
      ∙ ap (λ r. and_then r (λ to_east. and_then (rows_or_stop chain frames East files) (λ to_west. linked (setting_with chain seed frames to_east to_west)))) (west_judged a sizes files (Err fault) has is told))

  -- the first has these rows
  after_west : (a : ShelfState) (sizes : Sizes) (rows : List Row) (files : Files) → HasSizes frames sizes a → ScriptIs West (line_bits chain frames) a (Ok rows) → AreTold (duplexing chain seed frames) a.told files
      → (duplexing chain seed frames).comes_to files ≡ and_then (rows_or_stop chain frames East files) (λ to_west. linked (setting_with chain seed frames rows to_west))
  after_west a sizes rows files has is told =
      goes_on a sizes files has told
      ∙ ap (λ r. and_then r (λ to_east. and_then (rows_or_stop chain frames East files) (λ to_west. linked (setting_with chain seed frames to_east to_west)))) (west_judged a sizes files (Ok rows) has is told)

  -- the second has a fault
  east_fault : (a : ShelfState) (sizes : Sizes) (rows : List Row) (fault : ScriptFault) → HasSizes frames sizes a → ScriptIs West (line_bits chain frames) a (Ok rows) → ScriptIs East (line_bits chain frames) a (Err fault) → Comes (duplexing chain seed frames) a (Err (stop_of_script fault))
  east_fault a sizes rows fault has west east files told =
      sym (after_west a sizes rows files has west told
      ∙ ap (λ r. and_then r (λ to_west. linked (setting_with chain seed frames rows to_west))) (east_judged a sizes files (Err fault) has east told))

  -- both have these rows
  pub both_come : (a : ShelfState) (scripts : Scripts) (files : Files) → AreScripts chain frames scripts a → AreTold (duplexing chain seed frames) a.told files
      → (duplexing chain seed frames).comes_to files ≡ linked (setting_with chain seed frames scripts.to_east scripts.to_west)
  both_come a scripts files are told =
      after_west a are.sizes scripts.to_east files are.has are.to_east told
      ∙ ap (λ r. and_then r (λ to_west. linked (setting_with chain seed frames scripts.to_east to_west))) (east_judged a are.sizes files (Ok scripts.to_west) are.has are.to_west told)

  pub rows_found : (a : ShelfState) (scripts : Scripts) (files : Files) → AreScripts chain frames scripts a → AreTold (duplexing chain seed frames) a.told files
      → (rows_in chain frames West files ≡ scripts.to_east) × (rows_in chain frames East files ≡ scripts.to_west)
  rows_found a scripts files are told = (
    ap (λ r. result_unwrap_or r []) (west_judged a are.sizes files (Ok scripts.to_east) are.has are.to_east told),
    ap (λ r. result_unwrap_or r []) (east_judged a are.sizes files (Ok scripts.to_west) are.has are.to_west told),
  )

  -- ---- why a script isn't read

  -- a fault of a text refuses the command
  faulty : (a b : ShelfState) (fault : ScriptFault) → Comes (duplexing chain seed frames) a (Err (stop_of_script fault)) → Refuses (duplexing chain seed frames) a b (stop_of_script fault)
  faulty a b NoMemory comes = tt
  faulty a b (TooLong len) comes = comes
  faulty a b (BadRow line) comes = comes
  faulty a b (PastEnd line) comes = comes

  west_due : (a : ShelfState) (sizes : Sizes) → HasSizes frames sizes a → sizes.west ≤ most_script_bytes → OfInputs (duplexing chain seed frames) a (IsReadDue (duplexing chain seed frames) West)
  west_due a sizes has short files told =
      let is = is_ready a sizes files has told in
      let text = short_is chain frames West a sizes.west has.west files (west_told a files told) short in
      rw (is, text) refl

  pub west_refuses : (a b : ShelfState) (sizes : Sizes) (bits : ℕ) (stop : Stop) → bits ≡ line_bits chain frames → HasSizes frames sizes a → IsScriptStop West bits sizes.west a b stop → Refuses (duplexing chain seed frames) a b stop
  west_refuses a b sizes bits stop same has (inl unread) = read_refuses (duplexing chain seed frames) West 0 a b stop (lit< tt) refl refl (west_due a sizes has unread.0) unread.1
  west_refuses a b sizes bits stop same has (inr fault) =
      subst (Refuses (duplexing chain seed frames) a b) (sym fault.1.0) (faulty a b fault.0 (west_fault a sizes fault.0 has (subst (λ bits. ScriptIs West bits a (Err fault.0)) same fault.1.1)))

  east_due : (a : ShelfState) (sizes : Sizes) (rows : List Row) → HasSizes frames sizes a → ScriptIs West (line_bits chain frames) a (Ok rows) → sizes.east ≤ most_script_bytes → OfInputs (duplexing chain seed frames) a (IsReadDue (duplexing chain seed frames) East)
  east_due a sizes rows has west short files told =
      let is = is_ready a sizes files has told in
      let first = west_judged a sizes files (Ok rows) has west told in
      let text = short_is chain frames East a sizes.east has.east files (east_told a files told) short in
      rw (is, first, text) refl

  pub east_refuses : (a b : ShelfState) (sizes : Sizes) (bits : ℕ) (rows : List Row) (stop : Stop) → bits ≡ line_bits chain frames → HasSizes frames sizes a → ScriptIs West bits a (Ok rows) → IsScriptStop East bits sizes.east a b stop → Refuses (duplexing chain seed frames) a b stop
  east_refuses a b sizes bits rows stop same has west (inl unread) =
      read_refuses (duplexing chain seed frames) East 1 a b stop (lit< tt) refl refl (east_due a sizes rows has (subst (λ bits. ScriptIs West bits a (Ok rows)) same west) unread.0) unread.1
  east_refuses a b sizes bits rows stop same has west (inr fault) =
      subst (Refuses (duplexing chain seed frames) a b) (sym fault.1.0)
      (faulty a b fault.0 (east_fault a sizes rows fault.0 has (subst (λ bits. ScriptIs West bits a (Ok rows)) same west) (subst (λ bits. ScriptIs East bits a (Err fault.0)) same fault.1.1)))
