use Rattle.std.proofs.Common.{◌≡◌, ◌≢◌, ◌*◌, length, refl, arith}
use Rattle.std.proofs.lemmas.Grind.{common_steps}
use Rattle.std.proofs.lemmas.Result.{err_from_is_err_and}
use Rattle.pdh_streams.specs.E1.{e1_codec}
use Rattle.pdh_streams.proofs.UnpackingLaws.{is_read, unpack_start_refused, unpack_append_refused, unpack_done, unpack_none}
use Rattle.pdh_streams.proofs.holding.unpack_e1.Goals as goal

pub returns-in_err-start : goal.returns-in_err-start
returns-in_err-start g c =
    let p = err_from_is_err_and c.from_residual-in_err-start.result c.from_residual-in_err-start.ensures.1 in
    let line = c.in_ok-line.ensures in
    let b = g.S.Shelf.state c.read_framed.new.shelf in
    rw (p.1, p.2) (unpack_start_refused e1_codec _ b _ c.in_ok-line.line.items c.in_ok-unpacked.unpacked.payload.items c.in_ok-unpacked.unpacked.found _
    (is_read e1_codec _ b c.in_ok-line.line.items _ _ c.in_ok-unpacked.unpacked line.looks line.counted line.line line.served c.in_ok-unpacked.ensures c.deref.ensures.value refl) c.start.ensures.kept c.in_err-start.ensures.err)

pub returns-in_err-append : goal.returns-in_err-append
returns-in_err-append g c =
    let p = err_from_is_err_and c.from_residual-in_err-append.result c.from_residual-in_err-append.ensures.1 in
    let line = c.in_ok-line.ensures in
    let b = g.S.Shelf.state c.read_framed.new.shelf in
    rw (p.1, p.2) (unpack_append_refused e1_codec _ b (g.S.Shelf.state c.start.new.shelf) _ c.in_ok-line.line.items c.deref-2.result.now c.in_ok-unpacked.unpacked.found _
    (is_read e1_codec _ b c.in_ok-line.line.items _ _ c.in_ok-unpacked.unpacked line.looks line.counted line.line line.served c.in_ok-unpacked.ensures c.deref.ensures.value c.deref-2.ensures.value) c.start.ensures.kept c.in_ok-start.ensures.ok c.append.ensures.kept c.in_err-append.ensures.err)

pub returns-then-unpacked-eq0 : goal.returns-then-unpacked-eq0
returns-then-unpacked-eq0 g c =
    let line = c.in_ok-line.ensures in
    let b = g.S.Shelf.state c.read_framed.new.shelf in
    let none : c.in_ok-unpacked.unpacked.found.delivered ≡ 0 = omega arith in
    let bits : 8 * c.len.result ≡ 8 * length c.in_ok-line.line.items = grind (arith, common_steps) in
    unpack_none e1_codec _ b (g.S.Shelf.state c.start.new.shelf) _ c.in_ok-line.line.items c.deref-2.result.now c.in_ok-unpacked.unpacked.found _
    (is_read e1_codec _ b c.in_ok-line.line.items _ _ c.in_ok-unpacked.unpacked line.looks line.counted line.line line.served c.in_ok-unpacked.ensures c.deref.ensures.value c.deref-2.ensures.value) none bits
    c.start.ensures.kept c.in_ok-start.ensures.ok c.append.ensures.kept c.in_ok-append.ensures.ok

pub returns : goal.returns
returns g c =
    let line = c.in_ok-line.ensures in
    let b = g.S.Shelf.state c.read_framed.new.shelf in
    let some : c.in_ok-unpacked.unpacked.found.delivered ≢ 0 = omega arith in
    rw c.unpack_says.ensures (unpack_done e1_codec _ b (g.S.Shelf.state c.start.new.shelf) _ c.in_ok-line.line.items c.deref-2.result.now c.in_ok-unpacked.unpacked.found
    (is_read e1_codec _ b c.in_ok-line.line.items _ _ c.in_ok-unpacked.unpacked line.looks line.counted line.line line.served c.in_ok-unpacked.ensures c.deref.ensures.value c.deref-2.ensures.value) some
    c.start.ensures.kept c.in_ok-start.ensures.ok c.append.ensures.kept c.in_ok-append.ensures.ok)
