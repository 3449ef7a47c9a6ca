use Rattle.std.proofs.Common.{◌≡◌, ◌++◌, ◌/◌, ◌%◌, length, ap, sym, ◌∙◌, subst, arith}
use Rattle.std.proofs.lemmas.List.{with_items_is}
use Rattle.pdh_bits.specs.Bits.{bits_of, bytes_of}
use Rattle.pdh_bits.specs.BitOut.{BoundedBits}
use Rattle.pdh_bits.proofs.BitsLemmas.{bits_of-bytes_of, length-bytes_of}
use Rattle.pdh_show.specs.Shown.{shown_frame}
use Rattle.pdh_show.specs.Texts.{BoundedText, text_room}
use Rattle.pdh_show.specs.Showing.{TakesFrame}
use Rattle.pdh_show.proofs.Taking.{frame_len}
use Rattle.pdh_show.proofs.Joins.{shows_frame, written_whole}
use Rattle.pdh_show.proofs.frame.shown_as.Goals as goal

pub append_frame-requires : goal.append_frame-requires
append_frame-requires g c =
    let held = c.take_frame.new.held.bits in
    let long : length held ≡ g.S.Shape.LEN = frame_len c.in_ok-frame.frame.capacity c.args.number held _ _ c.in-Ok.ensures.ok ∙ ap (λ (b : BoundedBits). b.capacity) c.in_ok-frame.ensures ∙ c.LEN-len.ensures in
    let written : c.write_bytes.new.into ≡ bytes_of held = written_whole held c.deref_mut.result.now _ c.write_bytes.result (omega (arith, c.deref_mut.ensures.len, c.in_ok-bytes.ensures.len, long, c.LEN-len.ensures)) c.write_bytes.ensures.count c.write_bytes.ensures.written in
    let bytes_are : c.deref.result.now ≡ bytes_of held = c.deref.ensures.value ∙ with_items_is c.in_ok-bytes.bytes c.write_bytes.new.into (c.write_bytes.auto.into ∙ c.deref_mut.ensures.len) ∙ written in
    record {
      short = c.requires.short;
      room = omega (arith, ap (λ (t : BoundedText). length t.text) c.in_ok-text.ensures, ap (λ (t : BoundedText). t.capacity) c.in_ok-text.ensures, c.text_room.ensures, ap (text_room g.S.Shape.TRIBS) (ap length bytes_are ∙ length-bytes_of held ∙ ap (λ n. n / 8) long));
      whole = long;
      same = sym (ap bits_of bytes_are ∙ bits_of-bytes_of held (ap (λ n. n % 8) long ∙ c.requires.whole));
    }

pub returns-clause-ok : goal.returns-clause-ok
returns-clause-ok g c =
    let s = g.S.Shape.shape in
    let held = c.take_frame.new.held.bits in
    let len_is : s.len ≡ c.in_ok-frame.frame.capacity = g.met.S.Shape.len_is ∙ sym (ap (λ (b : BoundedBits). b.capacity) c.in_ok-frame.ensures ∙ c.LEN-len.ensures) in
    let takes : TakesFrame s.len c.args.number held (g.F.Feed.inputs c.args.feed.now) (g.F.Feed.inputs c.take_frame.new.feed) =
    subst (λ len. TakesFrame len c.args.number held (g.F.Feed.inputs c.args.feed.now) (g.F.Feed.inputs c.take_frame.new.feed)) (sym len_is) c.in-Ok.ensures.ok in
    let long : length held ≡ g.S.Shape.LEN = frame_len c.in_ok-frame.frame.capacity c.args.number held _ _ c.in-Ok.ensures.ok ∙ ap (λ (b : BoundedBits). b.capacity) c.in_ok-frame.ensures ∙ c.LEN-len.ensures in
    let written : c.write_bytes.new.into ≡ bytes_of held = written_whole held c.deref_mut.result.now _ c.write_bytes.result (omega (arith, c.deref_mut.ensures.len, c.in_ok-bytes.ensures.len, long, c.LEN-len.ensures)) c.write_bytes.ensures.count c.write_bytes.ensures.written in
    let bytes_are : c.deref.result.now ≡ bytes_of held = c.deref.ensures.value ∙ with_items_is c.in_ok-bytes.bytes c.write_bytes.new.into (c.write_bytes.auto.into ∙ c.deref_mut.ensures.len) ∙ written in
    shows_frame s c.args.name.now c.args.number held c.deref.result.now c.into_text.result.items _ _ takes bytes_are
    (c.into_text.ensures ∙ c.append_frame.ensures ∙ ap (λ (t : BoundedText). t.text ++ shown_frame s c.args.name.now c.args.number c.deref.result.now) c.in_ok-text.ensures)
