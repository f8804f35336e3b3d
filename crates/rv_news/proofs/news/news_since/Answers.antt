use Rattle.std.proofs.Common.{ℕ, List, ◌∷◌, ◌∙◌, sym, ap, map, Option}
use Rattle.std.specs.Borrow.{Bor}
use Rattle.std.specs.List.{filter_map}
use Rattle.std.specs.Option.{option_map}
use Rattle.std.proofs.lemmas.Result.{IfOk-weaker}
use Rattle.rv_rows.specs.declared.key.Key.{Key}
use Rattle.rv_turns.specs.declared.op.Op.{Op}
use Rattle.rv_turns.specs.declared.op.Op.TheVariants.{Clear}
use Rattle.rv_views.specs.Difference.{difference}
use Rattle.rv_views.specs.Viewed.{Viewed}
use Rattle.rv_news.specs.Shows.{ops_of, put_of}
use Rattle.rv_news.proofs.Puts.{puts_stand}
use Rattle.rv_news.proofs.news.news_since.Goals as goal

pub returns-in-None-clause-ops : goal.returns-in-None-clause-ops
returns-in-None-clause-ops g c =
    let stored = c.args.tables.now.rows in
    IfOk-weaker c.news_anew.result _ _
    (λ news ops.
    ops
    ∙ ap (λ (puts : List Op). Clear ∷ puts) (sym (puts_stand stored c.args.rows.now c.requires.stand) ∙ ap (λ (keys : List (Key × ℕ)). filter_map (put_of stored) (map (λ pair. pair.0) keys)) (sym c.requires.keys))
    ∙ ap (λ (found : Option (Bor Viewed)). ops_of stored (difference (option_map (λ r. r.now) found) c.args.view)) (sym c.in-None.is))
    c.news_anew.ensures.ops
