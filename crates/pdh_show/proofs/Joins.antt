-- The parts of a text, joined.
use Rattle.std.proofs.Common.{◌≡◌, ◌≤◌, ℕ, ◌-◌, ◌*◌, ◌/◌, min, Bool, List, ◌∷◌, ◌++◌, length, take, drop, suc, sym, ap, ◌∙◌, append_assoc, arith, Result, Ok, Err, IfOk, Vec}
use Rattle.std.specs.List.{flat_map}
use Rattle.std.proofs.lemmas.List.Concat.{flat_map-append}
use Rattle.std.proofs.lemmas.List.{append-nil, take_all, drop_all}
use Rattle.pdh_bits.specs.Bits.{bits_of, bytes_of}
use Rattle.pdh_bits.proofs.BitsLemmas.{length-bytes_of}
use Rattle.pdh_edge.specs.Ports.{Inputs}
use Rattle.pdh_shape.specs.Frame.{FrameShape, is_right}
use Rattle.pdh_show.specs.Shown.{ended, signal_line, tributary_lines, bytes_lines, shown_frame, shown_first}
use Rattle.pdh_chain.specs.declared.chain.Chain.{Chain}
use Rattle.pdh_chain.specs.Chains.{name_of, shapes_of, frame_bytes_of}
use Rattle.pdh_show.specs.Showing.{TakesFrame, ShowsFrame, Shows}

-- behind what stood there the first line, then the tributaries' lines, then the bytes' lines
pub shown_behind : (s : FrameShape) (name : List ℕ) (number : ℕ) (bytes : List ℕ) (frame : List Bool) (right : Bool) (start first more all : List ℕ) → frame ≡ bits_of bytes → right ≡ is_right s frame
    → first ≡ start ++ ended (signal_line name number right) → more ≡ first ++ flat_map ended (tributary_lines s frame) → all ≡ more ++ flat_map ended (bytes_lines bytes) → all ≡ start ++ shown_frame s name number bytes
unfolding shown_frame
shown_behind s name number bytes frame right start first more all frame_is right_is first_is more_is all_is =
    let line : List ℕ = ended (signal_line name number (is_right s (bits_of bytes))) in
    let tributaries : List ℕ = flat_map ended (tributary_lines s (bits_of bytes)) in
    let last : List ℕ = flat_map ended (bytes_lines bytes) in
    let line_is : first ≡ start ++ line = first_is ∙ ap (λ b. start ++ ended (signal_line name number b)) (right_is ∙ ap (is_right s) frame_is) in
    let lines_are : more ≡ (start ++ line) ++ tributaries = more_is ∙ ap (λ f. first ++ flat_map ended (tributary_lines s f)) frame_is ∙ ap (λ l. l ++ tributaries) line_is in
    all_is ∙ ap (λ l. l ++ last) lines_are ∙ append_assoc (start ++ line) tributaries last ∙ append_assoc start line (tributaries ++ last)
    ∙ ap (λ l. start ++ (line ++ l)) (sym (flat_map-append ended (tributary_lines s (bits_of bytes)) (bytes_lines bytes)))

-- the bytes of bits, written over as many
pub written_whole : (bits : List Bool) (old now : List ℕ) (n : ℕ) → length old ≡ length bits / 8 → n ≡ min ((length bits - 0) / 8) (length old) → now ≡ take n (bytes_of (drop 0 bits)) ++ drop n old → now ≡ bytes_of bits
written_whole bits old now n long count written =
    let bytes : List ℕ = bytes_of bits in
    let all : n ≡ length old = omega (arith, long, count) in
    let many : length bytes ≤ n = omega (arith, length-bytes_of bits, long, all) in
    written ∙ ap (λ l. l ++ drop n old) (take_all n bytes many) ∙ ap (λ l. bytes ++ l) (drop_all n old (omega (arith, all))) ∙ append-nil bytes

-- the text of a frame that was taken
pub shows_frame : (s : FrameShape) (name : List ℕ) (number : ℕ) (held : List Bool) (bytes text : List ℕ) (x y : Inputs) → TakesFrame s.len number held x y → bytes ≡ bytes_of held → text ≡ shown_frame s name number bytes → ShowsFrame s name number text x y
shows_frame s name number held bytes text x y takes bytes_are text_is = record {
  given = takes.given;
  count = takes.count;
  takes = takes.takes;
  text_is = text_is ∙ ap (shown_frame s name number) (bytes_are ∙ ap bytes_of takes.frame_is);
}

-- a chain's text is that of its top's shape
pub shows_chain : {E Z : Type 0} (chain at : Chain) (s : FrameShape) (below : List FrameShape) (name : List ℕ) (number : ℕ) (result : Result (Vec ℕ Z) E) (x y : Inputs) → chain ≡ at → shapes_of at ≡ s ∷ below → s.len ≡ 8 * frame_bytes_of at
    → name ≡ name_of chain → IfOk result (λ text. ShowsFrame s name number text.items x y) → IfOk result (λ text. Shows chain number text.items x y)
shows_chain chain at s below name number (Err e) x y is shape len name_is shown = tt
shows_chain chain at s below name number (Ok text) x y is shape len name_is shows =
    let len_is : s.len ≡ 8 * frame_bytes_of chain = len ∙ ap (λ c. 8 * frame_bytes_of c) (sym is) in
    let bytes : ℕ → List ℕ = λ len. bytes_of (drop (number * len) shows.given) in
    record {
      given = shows.given;
      count = shows.count ∙ ap (λ len. suc number * len) len_is;
      takes = shows.takes;
      text_is = shows.text_is ∙ ap (λ len. shown_frame s name number (bytes len)) len_is ∙ ap (λ n. shown_frame s n number (bytes (8 * frame_bytes_of chain))) name_is
          ∙ ap (λ shapes. shown_first shapes (name_of chain) number (bytes (8 * frame_bytes_of chain))) (sym (ap shapes_of is ∙ shape));
    }
