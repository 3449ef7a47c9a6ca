use Rattle.std.proofs.Common.{◌≡◌, ◌+◌, ◌-◌, ◌*◌, ◌<◌, ◌≤◌, ℕ, suc, Bool, not, List, length, refl, sym, ap, ◌∙◌, subst, arith}
use Rattle.std.specs.Bool.{beq}
use Rattle.pdh_packed.specs.Gaining.{gained}
use Rattle.pdh_packed.proofs.GainingLaws.{gained_none, grown_none, grown_long, gained_then, grown_then}
use Rattle.pdh_shape.specs.Payload.{payload_ones}
use Rattle.pdh_shape.specs.declared.place.Path.{Path}
use Rattle.pdh_tx.specs.Meaning.{plan_in, Meaning, Plan, IsNodeOf}
use Rattle.pdh_tx.specs.Node.{node_frame, odd_within, source_of}
use Rattle.pdh_tx.specs.NodeState.{HasParity}
use Rattle.pdh_tx.specs.Body.{sender_meaning, SenderAt, SenderFor}
use Rattle.pdh_tx.proofs.Gaining.{on_err_from}
use Rattle.pdh_tx.proofs.GatheredBits.{still, still_is, still_gives}
use Rattle.pdh_tx.proofs.MakingAhead.{ahead_none, ahead_then, ahead_all}
use Rattle.pdh_tx.proofs.Parity.{odd_piece, odd_with}
use Rattle.pdh_tx.proofs.SenderSteps.{sender_slots, sender_fails, sender_gives, sender_agrees, sender_piece}
use Rattle.pdh_tx.proofs.sender.Sender.make_gathered.Goals as goal

pub gather-requires-clause-clear : goal.gather-requires-clause-clear
gather-requires-clause-clear g c =
    let body = g.met.B.Body in
    let old = c.args.self.now in
    sender_slots g.S.Shape.shape g.B.Body.kind (body.is_kind old.body) old.path (plan_in c.args.clock.now g.G.SlipLog.takes) (g.B.Body.meanings old.body) (body.count old.body) _ old.at c.requires.clear.0 c.requires.clear.1 c.args.count _ c.requires.clear.2

pub returns-in_err-gather-clause-halts : goal.returns-in_err-gather-clause-halts
returns-in_err-gather-clause-halts g c =
    let body = g.met.B.Body in
    let old = c.args.self.now in
    on_err_from c.from_residual.result
    (λ x was. sender_fails g.S.Shape.shape g.B.Body.kind (body.is_kind old.body) old.path (plan_in c.args.clock.now g.G.SlipLog.takes) (g.B.Body.meanings old.body) (body.count old.body) _ old.at x was c.args.count _ _ c.in_err-gather.ensures.halts)

pub loop-made-init : goal.loop-made-init
loop-made-init g c =
    let s = g.S.Shape.shape in
    let b = g.B.Body in
    let body = g.met.B.Body in
    let old = c.args.self.now in
    let new = c.gather.new.self in
    let plan : Plan = plan_in c.args.clock.now g.G.SlipLog.takes in
    let ok = c.in_ok-gather.ensures in
    let end : ℕ = old.at.frame * s.len + old.at.slot + c.args.count in
    record {
      upto = omega arith;
      grown = grown_none c.args.into.now;
      running = refl;
      same = ok.same;
      same_path = refl;
      same_says = refl;
      unfailed = ok.fed.cause;
      fed = ok.fed.fed;
      told = ok.told;
      makes = λ x was.
          ahead_none (sender_meaning s b.kind old.path (b.meanings old.body)) old.next_say (SenderAt s (λ n t. b.gathered new old.path plan n t end) old.at) _
          (λ supply y. SenderFor s (λ n t. b.holds_gathered new old.path supply.plan supply n t end) old.path (b.meanings new) old.at old.say supply) plan x (x + 0) (x + c.args.count) (gained c.args.into.now c.args.into.now) ok.made.given _ _
          (gained_none c.args.into.now) (omega arith)
          (sender_gives s b.kind (body.is_kind old.body) old.path plan (b.meanings old.body) (body.count old.body) _ old.at x was c.args.count ok.made.given _ _ ok.made.takes ok.made.others ok.made.exact)
          (record { inside = was.inside; place = was.place; each = ok.made.place })
          (λ supply stood.
          let P : Plan → Type 0 = λ p. b.holds old.body old.path p supply old.at.frame old.at.slot in
          let Q : Plan → Type 0 = λ p. b.holds_gathered new old.path p supply old.at.frame old.at.slot end in
          let R : List Meaning → Type 0 = λ ms. HasParity s (source_of old.path ms supply) old.at in
          record {
            each = subst Q (sym stood.plan_is) (ok.made.onward supply stood.plan_is (subst P stood.plan_is stood.stands.each)
                (sender_agrees s b.kind (body.is_kind old.body) old.path plan (b.meanings old.body) (body.count old.body) _ old.at x was supply.lists ok.made.given stood.agrees));
            said = stood.stands.said;
            parity = subst R (sym ok.same) stood.stands.parity;
          });
    }

pub overflow_sub-rest : goal.overflow_sub-rest
overflow_sub-rest g c =
    let here = c.loop-made.invariant.makes c.requires.clear.0 c.requires.clear.1 in
    omega (arith, here.place.inside, c.LEN.ensures, g.met.S.Shape.len_is)

pub gathered_piece-odd-requires-clause-piece : goal.gathered_piece-odd-requires-clause-piece
gathered_piece-odd-requires-clause-piece g c =
    let here = c.loop-made.invariant.makes c.requires.clear.0 c.requires.clear.1 in
    record {
      some = omega (arith, here.place.inside, c.min-len.ensures, c.LEN.ensures, g.met.S.Shape.len_is, c.loop-made-test.true);
      inside = omega (arith, here.place.inside, c.min-len.ensures, c.LEN.ensures, g.met.S.Shape.len_is);
    }

pub gathered_piece-odd-requires-clause-room : goal.gathered_piece-odd-requires-clause-room
gathered_piece-odd-requires-clause-room g c =
    let inv = c.loop-made.invariant in
    omega (arith, grown_long c.args.into.now c.loop-made.into c.loop-made.made inv.grown, inv.grown.capacity, inv.upto, c.min-len.ensures, c.requires.room)

pub gathered_piece-odd-requires-clause-node : goal.gathered_piece-odd-requires-clause-node
gathered_piece-odd-requires-clause-node g c = subst (λ (path : Path). IsNodeOf c.args.clock.now.levels (node_frame g.S.Shape.shape path)) (sym c.loop-made.invariant.same_path) c.requires.fed.node

pub gathered_piece-odd-requires-clause-placed : goal.gathered_piece-odd-requires-clause-placed
gathered_piece-odd-requires-clause-placed g c =
    let inv = c.loop-made.invariant in
    let x : ℕ = c.requires.clear.0 in
    let here = inv.makes x c.requires.clear.1 in
    (c.args.self.now.at.frame * g.S.Shape.shape.len + c.args.self.now.at.slot + c.args.count, here.place.each, omega (arith, here.place.place, c.requires.clear.1.place, c.min-len.ensures, inv.upto))

pub scatter-requires : goal.scatter-requires
scatter-requires g c =
    let inv = c.loop-made.invariant in
    let self = c.loop-made.self in
    let b = g.B.Body in
    let plan : Plan = plan_in c.args.clock.now g.G.SlipLog.takes in
    let x : ℕ = c.requires.clear.0 in
    let here = inv.makes x c.requires.clear.1 in
    let end : c.args.self.now.at.frame * g.S.Shape.shape.len + c.args.self.now.at.slot + c.args.count ≡ self.at.frame * g.S.Shape.shape.len + self.at.slot = omega (arith, here.place.place, c.requires.clear.1.place, inv.upto, c.loop-made-test.false) in
    record { placed = (self.path, plan, self.at.frame, self.at.slot, here.place.inside, subst (λ e. b.gathered self.body self.path plan self.at.frame self.at.slot e) end here.place.each) }

pub moved-self-requires-clause-bounded : goal.moved-self-requires-clause-bounded
moved-self-requires-clause-bounded g c =
    let inv = c.loop-made.invariant in
    let old = c.args.self.now in
    let here = inv.makes c.requires.clear.0 c.requires.clear.1 in
    let end : ℕ = old.at.frame * g.S.Shape.shape.len + old.at.slot + c.args.count in
    (c.gathered_piece-odd.ensures.made end here.place.each (omega (arith, here.place.place, c.requires.clear.1.place, c.min-len.ensures, inv.upto))).bounded

pub loop-made-smaller : goal.loop-made-smaller
loop-made-smaller g c =
    let inv = c.loop-made.invariant in
    let here = inv.makes c.requires.clear.0 c.requires.clear.1 in
    let some : 0 < c.min-len.result = omega (arith, here.place.inside, c.min-len.ensures, c.LEN.ensures, g.met.S.Shape.len_is, c.loop-made-test.true) in
    omega (arith, some, inv.upto, c.min-len.ensures)

pub loop-made-preserved : goal.loop-made-preserved
loop-made-preserved g c =
    let s = g.S.Shape.shape in
    let b = g.B.Body in
    let body = g.met.B.Body in
    let inv = c.loop-made.invariant in
    let old = c.args.self.now in
    let self = c.loop-made.self in
    let new = c.gathered_piece-odd.new.self in
    let plan : Plan = plan_in c.args.clock.now g.G.SlipLog.takes in
    let first = c.args.into.now in
    let mid = c.loop-made.into in
    let into = c.gathered_piece-odd.new.into in
    let made : ℕ = c.loop-made.made in
    let len : ℕ = c.min-len.result in
    let end : ℕ = old.at.frame * s.len + old.at.slot + c.args.count in
    let at = c.moved-self.result in
    let follows = c.moved-self.ensures.follows in
    let last : ℕ = self.at.slot + len - 1 in
    let piece = c.gathered_piece-odd.ensures in
    let bits : List Bool = gained mid into in
    let a = g.F.Feed.inputs c.gather.new.feed in
    let upto : made + len ≤ c.args.count = omega (arith, inv.upto, c.min-len.ensures) in
    record {
      upto = upto;
      grown = grown_then first mid into made len inv.grown piece.grown;
      running = inv.running;
      same = piece.same ∙ inv.same;
      same_path = inv.same_path;
      same_says = inv.same_says;
      unfailed = inv.unfailed;
      fed = inv.fed;
      told = inv.told;
      makes = λ x was.
          let before = inv.makes x was in
          let here = before.place in
          let some : 0 < len = omega (arith, here.inside, c.min-len.ensures, c.LEN.ensures, g.met.S.Shape.len_is, c.loop-made-test.true) in
          let most : self.at.slot + len ≤ s.len = omega (arith, here.inside, c.min-len.ensures, c.LEN.ensures, g.met.S.Shape.len_is) in
          let gives = piece.made end here.each (omega (arith, here.place, was.place, upto)) in
          let long : length bits ≡ len = piece.grown.count in
          let last_is : suc last ≡ self.at.slot + len = omega (arith, some) in
          let line : (sender_meaning s still self.path (b.meanings self.body)).line ≡ (sender_meaning s b.kind old.path (b.meanings old.body)).line =
          ap (λ (path : Path). (sender_meaning s still path (b.meanings self.body)).line) inv.same_path ∙ ap (λ (ms : List Meaning). (sender_meaning s still old.path ms).line) inv.same in
          let made_piece = sender_piece s still (still_is s) self.path plan (b.meanings self.body) (body.count self.body) (λ n t. b.gathered self.body self.path plan n t end) self.at (x + made) here (b.meanings new) piece.same at last follows
          (λ t. b.gathered new self.path plan self.at.frame t end) (λ n t. b.gathered new self.path plan n t end) (body.gathered_next new self.path plan end self.at.frame last at.frame at.slot follows)
          (λ p supply n t. b.holds_gathered self.body self.path p supply n t end) (λ supply t. b.holds_gathered new self.path plan supply self.at.frame t end) (λ p supply n t. b.holds_gathered new self.path p supply n t end)
          (λ supply. body.holds_gathered_next new self.path plan supply end self.at.frame last at.frame at.slot follows) self.say self.next_say c.said-say.result c.said-say.ensures len bits (not (beq self.at.is_odd c.gathered_piece-odd.result)) a a long some last_is (omega (arith, most, last_is))
          (still_gives b.meanings b.gathered b.holds_gathered s self.body new plan (record { path = self.path; frame = self.at.frame; slot = self.at.slot; len = len }) end c.said-say.result self.at.last_odd c.gathered_piece-odd.result bits a gives)
          (λ source line odd. ap (λ b. not (beq self.at.is_odd b)) gives.odd_is ∙ odd_with self.at.is_odd (payload_ones s self.at.slot bits) ∙ odd_piece s source self.at.frame self.at.slot bits self.at.is_odd line odd ∙ ap (λ k. odd_within s source self.at.frame (self.at.slot + k)) long)
          c.moved-self.ensures.parity in
          ahead_then (sender_meaning s b.kind old.path (b.meanings old.body)) (sender_meaning s still self.path (b.meanings self.body)) old.next_say self.next_say
          (λ y. SenderAt s (λ n t. b.gathered self.body self.path plan n t end) self.at y) (λ y. SenderAt s (λ n t. b.gathered new self.path plan n t end) at y)
          (λ supply y. SenderFor s (b.holds old.body old.path supply.plan supply) old.path (b.meanings old.body) old.at old.say supply)
          (λ supply y. SenderFor s (λ n t. b.holds_gathered self.body self.path supply.plan supply n t end) self.path (b.meanings self.body) self.at self.say supply)
          (λ supply y. SenderFor s (λ n t. b.holds_gathered new self.path supply.plan supply n t end) self.path (b.meanings new) at c.said-say.result supply)
          plan x (x + made) (x + made + len) (x + (made + len)) (x + c.args.count) (gained first mid) bits (gained first into) (g.F.Feed.inputs c.args.feed.now) a a
          (omega arith) line refl (λ k. refl) inv.same_says (omega (arith, upto)) (gained_then first mid into made len inv.grown piece.grown) before made_piece;
    }

pub returns-clause-made : goal.returns-clause-made
returns-clause-made g c x was =
    let s = g.S.Shape.shape in
    let b = g.B.Body in
    let inv = c.loop-made.invariant in
    let old = c.args.self.now in
    let self = c.loop-made.self in
    let new = c.scatter.new.self in
    let plan : Plan = plan_in c.args.clock.now g.G.SlipLog.takes in
    let end : ℕ = old.at.frame * s.len + old.at.slot + c.args.count in
    let back = c.scatter.ensures in
    let whole : SenderAt s (λ n t. b.gathered self.body self.path plan n t end) self.at (x + c.args.count) → b.gathered self.body self.path plan self.at.frame self.at.slot (self.at.frame * s.len + self.at.slot) =
    λ here. subst (λ e. b.gathered self.body self.path plan self.at.frame self.at.slot e) (omega (arith, here.place, was.place)) here.each in
    ahead_all _ _ _ _ _ _ _ plan x (x + c.loop-made.made) (x + c.args.count) _ _ _ (omega (arith, inv.upto, c.loop-made-test.false))
    (λ here. record { inside = here.inside; place = here.place; each = back.placed self.path plan self.at.frame self.at.slot here.inside (whole here) })
    (λ supply is here for.
    let P : Plan → Type 0 = λ p. b.holds new self.path p supply self.at.frame self.at.slot in
    let Q : Plan → Type 0 = λ p. b.holds_gathered self.body self.path p supply self.at.frame self.at.slot end in
    let R : ℕ → Type 0 = λ e. b.holds_gathered self.body self.path plan supply self.at.frame self.at.slot e in
    let T : List Meaning → Type 0 = λ ms. HasParity s (source_of self.path ms supply) self.at in
    record {
      each = subst P (sym is) (back.held self.path plan supply self.at.frame self.at.slot here.inside (whole here) (subst R (omega (arith, here.place, was.place)) (subst Q is for.each)));
      said = for.said;
      parity = subst T (sym back.same) for.parity;
    })
    (inv.makes x was)

pub returns-clause-kept : goal.returns-clause-kept
returns-clause-kept g c =
    let s = g.S.Shape.shape in
    let b = g.B.Body in
    let inv = c.loop-made.invariant in
    record {
      same = ap (λ (path : Path). sender_meaning s b.kind path (b.meanings c.scatter.new.self)) inv.same_path ∙ ap (λ (ms : List Meaning). sender_meaning s b.kind c.args.self.now.path ms) (c.scatter.ensures.same ∙ inv.same);
      same_says = inv.same_says;
    }
