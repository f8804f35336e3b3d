use Rattle.std.proofs.Common.{◌∙◌, ap, ◌++◌, List}
use Rattle.json.specs.Token.{Token}
use Rattle.serde_json.specs.Written.{outline}
use Rattle.json.specs.Tree.{json_tokens}
use Rattle.rv_wire.specs.Answers.{pull_data}
use Rattle.rv_wire.proofs.Writing.{text_of}
use Rattle.rv_wire.proofs.answer.pull_text.Goals as goal

pub returns : goal.returns
returns c =
    let whole = pull_data c.args.cookie.now c.args.ids.now c.args.ops.now in
    c.from_vec.ensures ∙ text_of _ _ _ whole c.into_inner.ensures.items
    (c.in_ok-write_pull.ensures.0 ∙ c.new-out.ensures.before ∙ c.in_ok-with_capacity.ensures.items)
    (c.in_ok-write_pull.ensures.1 ∙ ap (λ (ts : List Token). ts ++ json_tokens (outline whole)) c.new-out.ensures.tokens)
