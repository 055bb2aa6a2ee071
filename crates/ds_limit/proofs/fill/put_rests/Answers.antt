use Rattle.std.proofs.Common.{rules, ◌≡◌, ◌++◌, ◌∷◌, [], length, sym, ◌∙◌, ap}
use Rattle.ds_limit.specs.Rests.{with_rests}
use Rattle.ds_limit.proofs.RestFacts.{put_one, none_put}
use Rattle.ds_limit.proofs.fill.put_rests.Goals as goal

pub loop-rest-preserved-in-Some : goal.loop-rest-preserved-in-Some
loop-rest-preserved-in-Some c =
    let more : c.loop-rest.rests.items ≡ c.pop.new.self.items ++ c.in-Some.rest ∷ [] = search rules in
    let here : c.len.result ≡ length c.pop.new.self.items = search rules in
    let both = put_one c.loop-rest.list.items c.loop-rest.rests.items c.pop.new.self.items c.in-Some.rest c.index_mut-reply.result.now c.len.result (with_rests c.into_vec-list.result.items c.args.rests.items) here more c.loop-rest.invariant.fit c.index_mut-reply.ensures.value c.loop-rest.invariant.whole in
    record { whole = both.0; fit = both.1 }

pub loop-rest-preserved : goal.loop-rest-preserved
loop-rest-preserved c =
    let more : c.loop-rest.rests.items ≡ c.pop.new.self.items ++ c.in-Some.rest ∷ [] = search rules in
    let here : c.len.result ≡ length c.pop.new.self.items = search rules in
    let both = put_one c.loop-rest.list.items c.loop-rest.rests.items c.pop.new.self.items c.in-Some.rest c.index_mut-reply.result.now c.len.result (with_rests c.into_vec-list.result.items c.args.rests.items) here more c.loop-rest.invariant.fit c.index_mut-reply.ensures.value c.loop-rest.invariant.whole in
    record { whole = both.0; fit = both.1 }

pub returns : goal.returns
returns c =
    let none : length c.loop-rest.rests.items ≡ 0 = search rules in
    let are : c.into_vec-list.result.items ≡ c.args.replies.now = search rules in
    c.from_vec.ensures ∙ sym (none_put c.loop-rest.list.items c.loop-rest.rests.items none) ∙ c.loop-rest.invariant.whole ∙ ap (λ rs. with_rests rs c.args.rests.items) are
