use Rattle.std.proofs.lemmas.Result.{IfOk-weaker}
use Rattle.rv_words.proofs.Tables.{subcommand_added}
use Rattle.rv_words.specs.Table.{rv_app}
use Rattle.rv_words.proofs.table.rv.Goals as goal

pub returns : goal.returns
unfolding rv_app
returns c =
    let feed = subcommand_added _ _ _ _ _ c.in_ok-subcommand.ensures c.in_ok-of_store.ensures.local c.bare.ensures.app c.in_ok-of_store.ensures.app in
    let lists = subcommand_added _ _ _ _ _ c.in_ok-subcommand-2.ensures c.in_ok-of_store-2.ensures.local feed c.in_ok-of_store-2.ensures.app in
    let activity = subcommand_added _ _ _ _ _ c.in_ok-subcommand-3.ensures c.in_ok-of_store-3.ensures.local lists c.in_ok-of_store-3.ensures.app in
    let check = subcommand_added _ _ _ _ _ c.in_ok-subcommand-4.ensures c.in_ok-of_store-4.ensures.local activity c.in_ok-of_store-4.ensures.app in
    let retire = subcommand_added _ _ _ _ _ c.in_ok-subcommand-5.ensures c.in_ok-retire.ensures.local check c.in_ok-retire.ensures.app in
    let make = subcommand_added _ _ _ _ _ c.in_ok-subcommand-6.ensures c.in_ok-make.ensures.local retire c.in_ok-make.ensures.app in
    let import = subcommand_added _ _ _ _ _ c.in_ok-subcommand-7.ensures c.in_ok-import.ensures.local make c.in_ok-import.ensures.app in
    let export = subcommand_added _ _ _ _ _ c.in_ok-subcommand-8.ensures c.in_ok-export.ensures.local import c.in_ok-export.ensures.app in
    let serve = subcommand_added _ _ _ _ _ c.in_ok-subcommand-9.ensures c.in_ok-serve.ensures.local export c.in_ok-serve.ensures.app in
    let close_book = subcommand_added _ _ _ _ _ c.in_ok-subcommand-10.ensures c.in_ok-of_store-5.ensures.local serve c.in_ok-of_store-5.ensures.app in
    let ship = subcommand_added _ _ _ _ _ c.in_ok-subcommand-11.ensures c.in_ok-of_store-6.ensures.local close_book c.in_ok-of_store-6.ensures.app in
    IfOk-weaker c.subcommand-12.result _ _ (λ r adds. subcommand_added _ _ r _ _ adds c.in_ok-follow.ensures.local ship c.in_ok-follow.ensures.app)
    c.subcommand-12.ensures
