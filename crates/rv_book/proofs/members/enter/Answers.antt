use Rattle.std.proofs.Common.{◌≡◌, ◌∙◌, ℕ, true, cond, List, Option, Some, None, option_map, Bor, refl, sym, ap}
use Rattle.std.specs.Option.{option_or, unwrap_or}
use Rattle.rv_base.specs.PositionLaws.{equals}
use Rattle.rv_book.specs.Entries.{is_act_of}
use Rattle.rv_book.specs.Book.{group_of}
use Rattle.rv_book.specs.Logs.{logged}
use Rattle.rv_book.specs.Members.{acting_group, group_before}
use Rattle.rv_book.specs.RegisterLaws.{group_of-push}
use Rattle.rv_book.proofs.MemberLaws.{members-same}
use Rattle.rv_book.proofs.members.enter.Goals as goal

-- the group that a client was of, and else its act's own
was_or_own : (was : Option (Bor (List ℕ))) (own : Bor (List ℕ)) (group : Option (List ℕ)) → option_map (λ g. g.now) was ≡ group → option_or group (Some own.now) ≡ Some (unwrap_or was own).now
was_or_own None own group is = ap (λ (g : Option (List ℕ)). option_or g (Some own.now)) (sym is)
was_or_own (Some first) own group is = ap (λ (g : Option (List ℕ)). option_or g (Some own.now)) (sym is)

pub returns-in-Act-clause-rows : goal.returns-in-Act-clause-rows
returns-in-Act-clause-rows c =
    let book = logged c.args.log in
    let entry = c.args.entry.now in
    let client = c.in-Act.client in
    let acts : is_act_of client entry ≡ true = rw c.in-Act.is (equals client) in
    let group : acting_group entry ≡ c.in-Act.group = rw c.in-Act.is refl in
    let was : option_map (λ g. g.now) c.args.first_group ≡ group_of client book = c.requires.group ∙ ap (group_before book) c.in-Act.is in
    c.enter_act.ensures.rows entry acts
    (group_of-push client book entry ∙ (λ i. option_or (group_of client book) (cond (acts i) (Some (group i)) None))
    ∙ was_or_own c.args.first_group _ (group_of client book) was ∙ ap (λ (g : Bor (List ℕ)). Some g.now) (sym c.unwrap_or.ensures))

pub returns-in-Look-clause-rows : goal.returns-in-Look-clause-rows
returns-in-Look-clause-rows c = members-same (logged c.args.log) c.args.entry.now c.args.rows.now.items (λ k. rw c.in-Look.is refl) c.requires.rows

pub returns-in-Retire-clause-rows : goal.returns-in-Retire-clause-rows
returns-in-Retire-clause-rows c = members-same (logged c.args.log) c.args.entry.now c.args.rows.now.items (λ k. rw c.in-Retire.is refl) c.requires.rows
