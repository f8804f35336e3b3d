use Rattle.std.proofs.Common.{◌≡◌, ap, sym, subst, ◌∙◌, arith}
use Rattle.rv_book.specs.Book.{Book, size}
use Rattle.rv_book.specs.declared.entry.Entry.{Entry}
use Rattle.rv_book.specs.declared.entry.Entry.TheVariants.{Act}
use Rattle.rv_history.specs.Lawful.{IsLawfulAfter}
use Rattle.rv_rows.specs.declared.call.Call.{Call}
use Rattle.rv_state.specs.declared.prepared.Prepared.TheVariants.{Act as Ready}
use Rattle.rv_state.specs.Ready.{IsPrepared}
use Rattle.rv_state.specs.Standing.{Standing}
use Rattle.rv_state.proofs.state.State.ready_act.Goals as goal

pub returns-clause-prepared : goal.returns-clause-prepared
returns-clause-prepared c =
    let s = c.stage_act.new.self in
    let entry : Entry = Act c.args.user c.args.group c.args.client c.args.id c.args.call in
    let book : s.book ≡ c.args.self.now.book = c.stage_act.ensures.book ∙ c.reserve.ensures.book ∙ ap (λ (t : Standing). t.book) c.self.view_is in
    let limit : s.limit ≡ c.args.self.now.limit = c.stage_act.ensures.limit ∙ c.reserve.ensures.limit ∙ ap (λ (t : Standing). t.limit) c.self.view_is in
    let length = ap size book in
    let made : IsPrepared s (Ready (record { user = c.args.user; group = c.args.group; client = c.args.client; id = c.args.id; call = c.args.call; found = c.args.found; staged = c.in_ok-staged.staged; concerned = c.in_ok-staged.concerned })) = record {
      lawful = subst (λ (b : Book). IsLawfulAfter b entry) (sym book) c.requires.lawful;
      fits = c.act_fits.ensures;
      below = omega (arith, c.requires.within_limit, length, limit);
      space = omega (arith, c.stage_act.ensures.spare, c.in_ok-reserve.ensures.spare_entries);
      effect = (c.in_ok-staged.ensures.rows, c.in_ok-staged.ensures.staged, c.in_ok-staged.ensures.effect, c.in_ok-staged.ensures.marks, c.in_ok-staged.ensures.concerned c.args.group c.args.client c.args.id);
    } in
    subst (λ (call : Call). IsPrepared s (Ready (record { user = c.args.user; group = c.args.group; client = c.args.client; id = c.args.id; call = call; found = c.args.found; staged = c.in_ok-staged.staged; concerned = c.in_ok-staged.concerned })))
    (sym c.with_known_list-call.ensures) made
