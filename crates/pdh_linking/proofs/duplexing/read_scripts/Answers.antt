use Rattle.std.proofs.Common.{◌≡◌, ◌*◌, Ok, subst, ◌∙◌}
use Rattle.std.proofs.lemmas.Result.{err_from_is_err_and}
use Rattle.pdh_script.specs.Scripts.{FitIn}
use Rattle.pdh_answers.specs.declared.file.File.TheVariants.{West, East}
use Rattle.pdh_runner.proofs.Refusing.{refuses_since}
use Rattle.pdh_runner.proofs.Touching.{looks_then}
use Rattle.pdh_linking.specs.Duplex.{line_bits, duplexing}
use Rattle.pdh_linking.specs.DuplexSteps.{ScriptIs}
use Rattle.pdh_linking.proofs.SessionComes.{bits_are, west_refuses, east_refuses, sizes_since, script_still}
use Rattle.pdh_linking.proofs.duplexing.read_scripts.Goals as goal

pub returns-in_err-sizes-clause-err : goal.returns-in_err-sizes-clause-err
returns-in_err-sizes-clause-err g c =
    let p = err_from_is_err_and c.from_residual.result c.from_residual.ensures.1 in
    rw (p.1, p.2) (λ seed. c.in_err-sizes.ensures.err c.args.chain seed)

pub returns-in_err-to_east-clause-err : goal.returns-in_err-to_east-clause-err
returns-in_err-to_east-clause-err g c =
    let chain = c.args.chain in
    let frames = c.args.frames in
    let p = err_from_is_err_and c.from_residual-in_err-to_east.result c.from_residual-in_err-to_east.ensures.1 in
    let bits : 8 * frames * c.from.result ≡ line_bits chain frames = rw c.from.ensures (bits_are chain frames c.frame_bytes.result c.frame_bytes.ensures.bits) in
    rw (p.1, p.2) (λ seed. refuses_since (duplexing chain seed frames) _ (g.S.Shelf.state c.read_sizes.new.shelf) _ _ c.read_sizes.ensures.looks c.in_ok-sizes.ensures.counted
    (west_refuses chain seed frames _ _ c.in_ok-sizes.sizes _ _ bits c.in_ok-sizes.ensures.ok c.in_err-to_east.ensures.err))

pub returns-in_err-to_west-clause-err : goal.returns-in_err-to_west-clause-err
returns-in_err-to_west-clause-err g c =
    let chain = c.args.chain in
    let frames = c.args.frames in
    let sizes = c.in_ok-sizes.sizes in
    let p = err_from_is_err_and c.from_residual-in_err-to_west.result c.from_residual-in_err-to_west.ensures.1 in
    let bits : 8 * frames * c.from.result ≡ line_bits chain frames = rw c.from.ensures (bits_are chain frames c.frame_bytes.result c.frame_bytes.ensures.bits) in
    let first = g.S.Shelf.state c.read_sizes.new.shelf in
    let second = g.S.Shelf.state c.read_script.new.shelf in
    rw (p.1, p.2) (λ seed. refuses_since (duplexing chain seed frames) _ second _ _ (looks_then _ first second c.read_sizes.ensures.looks c.read_script.ensures.looks) (c.in_ok-to_east.ensures.counted ∙ c.in_ok-sizes.ensures.counted)
    (east_refuses chain seed frames _ _ sizes _ c.in_ok-to_east.to_east _ bits (sizes_since frames sizes first second c.read_script.ensures.looks c.in_ok-sizes.ensures.ok)
    (script_still West _ first second (Ok c.in_ok-to_east.to_east) c.read_script.ensures.looks c.in_ok-to_east.ensures.rows) c.in_err-to_west.ensures.err))

pub returns-clause-ok : goal.returns-clause-ok
returns-clause-ok g c =
    let chain = c.args.chain in
    let frames = c.args.frames in
    let sizes = c.in_ok-sizes.sizes in
    let bits : 8 * frames * c.from.result ≡ line_bits chain frames = rw c.from.ensures (bits_are chain frames c.frame_bytes.result c.frame_bytes.ensures.bits) in
    let first = g.S.Shelf.state c.read_sizes.new.shelf in
    let second = g.S.Shelf.state c.read_script.new.shelf in
    let last = g.S.Shelf.state c.read_script-2.new.shelf in
    let looks = looks_then first second last c.read_script.ensures.looks c.read_script-2.ensures.looks in
    record {
      sizes = sizes;
      has = sizes_since frames sizes first last looks c.in_ok-sizes.ensures.ok;
      to_east = subst (λ bits. ScriptIs West bits last (Ok c.in_ok-to_east.to_east)) bits (script_still West _ first last (Ok c.in_ok-to_east.to_east) looks c.in_ok-to_east.ensures.rows);
      to_west = subst (λ bits. ScriptIs East bits last (Ok c.in_ok-to_west.to_west)) bits (script_still East _ second last (Ok c.in_ok-to_west.to_west) c.read_script-2.ensures.looks c.in_ok-to_west.ensures.rows);
      fit_east = subst (λ bits. FitIn bits c.in_ok-to_east.to_east) bits c.in_ok-to_east.ensures.fit;
      fit_west = subst (λ bits. FitIn bits c.in_ok-to_west.to_west) bits c.in_ok-to_west.ensures.fit;
    }
