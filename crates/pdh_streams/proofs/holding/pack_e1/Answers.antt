use Rattle.std.proofs.Common.{◌≡◌, length, refl, arith}
use Rattle.std.proofs.lemmas.Grind.{common_steps}
use Rattle.std.proofs.lemmas.Result.{err_from_is_err_and}
use Rattle.pdh_streams.specs.E1.{e1_codec}
use Rattle.pdh_streams.proofs.PackingLaws.{is_read, pack_start_refused, pack_append_refused, pack_done}
use Rattle.pdh_streams.proofs.holding.pack_e1.Goals as goal

pub returns-in_err-start : goal.returns-in_err-start
returns-in_err-start g c =
    let p = err_from_is_err_and c.from_residual-in_err-start.result c.from_residual-in_err-start.ensures.1 in
    let payload = c.in_ok-payload.ensures in
    let b = g.S.Shelf.state c.read_payload.new.shelf in
    rw (p.1, p.2) (pack_start_refused e1_codec _ b _ c.in_ok-payload.payload.items c.in_ok-line.line.items _
    (is_read e1_codec _ b c.in_ok-payload.payload.items _ c.in_ok-line.line.items _ payload.looks payload.counted payload.payload payload.served c.in_ok-line.ensures c.deref.ensures.value refl)
    c.start.ensures.kept (c.in_err-start.ensures.err))

pub returns-in_err-append : goal.returns-in_err-append
returns-in_err-append g c =
    let p = err_from_is_err_and c.from_residual-in_err-append.result c.from_residual-in_err-append.ensures.1 in
    let payload = c.in_ok-payload.ensures in
    let b = g.S.Shelf.state c.read_payload.new.shelf in
    rw (p.1, p.2) (pack_append_refused e1_codec _ b (g.S.Shelf.state c.start.new.shelf) _ c.in_ok-payload.payload.items c.deref-2.result.now _
    (is_read e1_codec _ b c.in_ok-payload.payload.items _ c.in_ok-line.line.items _ payload.looks payload.counted payload.payload payload.served c.in_ok-line.ensures c.deref.ensures.value c.deref-2.ensures.value)
    c.start.ensures.kept (c.in_ok-start.ensures.ok) (c.append.ensures.kept) (c.in_err-append.ensures.err))

pub returns : goal.returns
returns g c =
    let payload = c.in_ok-payload.ensures in
    let b = g.S.Shelf.state c.read_payload.new.shelf in
    let count : c.len.result ≡ length c.in_ok-payload.payload.items = grind (arith, common_steps) in
    rw c.pack_says.ensures (pack_done e1_codec _ b (g.S.Shelf.state c.start.new.shelf) _ c.in_ok-payload.payload.items c.deref-2.result.now _
    (is_read e1_codec _ b c.in_ok-payload.payload.items _ c.in_ok-line.line.items _ payload.looks payload.counted payload.payload payload.served c.in_ok-line.ensures c.deref.ensures.value c.deref-2.ensures.value) count
    c.start.ensures.kept (c.in_ok-start.ensures.ok) (c.append.ensures.kept) (c.in_ok-append.ensures.ok))
