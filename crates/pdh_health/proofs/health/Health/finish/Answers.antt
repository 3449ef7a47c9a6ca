use Rattle.std.proofs.Common.{◌≡◌, ◌++◌, ◌∷◌, [], List, ap, sym, ◌∙◌, subst, rules}
use Rattle.std.proofs.lemmas.Iterator.Adapters.{YieldsList-from_vec}
use Rattle.std.proofs.lemmas.Iterator.Consumers.{YieldsList-end}
use Rattle.std.proofs.lemmas.List.{map-id}
use Rattle.pdh_shape.specs.declared.place.Path.{Path}
use Rattle.pdh_health.specs.declared.node.Node.{Node}
use Rattle.pdh_health.specs.declared.node_health.NodeHealth.{NodeHealth}
use Rattle.pdh_health.specs.declared.node_health.NodeNumbers.{NodeNumbers}
use Rattle.pdh_health.specs.Nodes.{IsFoundOf}
use Rattle.pdh_health.specs.Lines.{numbers_at}
use Rattle.pdh_health.proofs.Finding.{Found, FoundEach, one_more_found, all_found}
use Rattle.pdh_health.proofs.health.Health.finish.Goals as goal

pub loop-node-preserved : goal.loop-node-preserved
loop-node-preserved c =
    let bits = c.args.bits in
    let numbers = c.args.numbers.now in
    let node = c.in-Some.node in
    let own : c.numbers_at-own.result ≡ numbers_at numbers node.plan.path = c.numbers_at-own.ensures ∙ ap (λ (path : Path). numbers_at numbers path) c.path.ensures in
    let one : Found bits numbers node c.finish.result =
    λ rate plan events stands less few. subst (λ (n : NodeNumbers). IsFoundOf rate bits plan n events c.finish.result) own (c.finish.ensures rate plan events stands less few) in
    record {
      found = subst (λ (l : List NodeHealth). FoundEach bits numbers (c.loop-node.yielded ++ node ∷ []) l) (sym {A = List NodeHealth} c.in_ok-push.ensures.items)
          (one_more_found bits numbers c.loop-node.yielded c.loop-node.found.items node c.finish.result c.loop-node.invariant.found one);
    }

pub returns : goal.returns
returns c rate plans events stands order less =
    let nodes = c.args.self.nodes.items in
    let found = c.loop-node.found.items in
    let end = YieldsList-end (YieldsList-from_vec {s = c.into_iter-node-iterator.result} nodes (search rules) (search rules))
    c.loop-node.yielded c.loop-node.node-iterator c.loop-node.yielded_by c.next.result c.next.new.self c.in-None.is c.next.ensures.steps in
    let all : c.loop-node.yielded ≡ nodes = sym (map-id c.loop-node.yielded) ∙ end.0 in
    let each = subst (λ (l : List Node). FoundEach c.args.bits c.args.numbers.now l found) all c.loop-node.invariant.found in
    record {
      events_are = stands.events_are;
      first_is = stands.first_is;
      last_is = stands.last_is;
      nodes_are = all_found rate c.args.bits c.args.numbers.now nodes found plans events each stands.nodes_stand order less;
    }
