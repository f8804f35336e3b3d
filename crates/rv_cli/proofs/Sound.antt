-- A store that keeps a lawful book is not damaged.
use Rattle.std.proofs.Common.{◌≡◌, ◌≢◌, ℕ, ◌-◌, ◌^◌, ◌⊎◌, List, [], refl, sym, ◌∙◌, subst, arith, inl, inr}
use Rattle.std.specs.Prelude.{codes}
use Rattle.rv_base.specs.Outside.{InputState, OutputState}
use Rattle.rv_book.specs.Book.{empty_book}
use Rattle.rv_history.specs.LawfulBookLaws.{lawful_none}
use Rattle.rv_history.specs.ReplayLaws.{replay_none}
use Rattle.rv_news.specs.KeptRecordLaws.{records_none}
use Rattle.rv_keeper.specs.declared.loaded.Loaded.{Loaded}
use Rattle.rv_keeper.specs.Keeping.{holding}
use Rattle.rv_keeper.specs.Stores.{OpensAs}
use Rattle.rv_record.specs.declared.fault.Damage.{Damage}
use Rattle.rv_store.specs.Opening.{MayOpen}
use Rattle.rv_store.specs.OpeningLaws.{opens-not_damaged}
use Rattle.rv_answering.specs.declared.line.Line.{Line}
use Rattle.rv_cli.specs.declared.ending.Ending.{Ending}
use Rattle.rv_cli.specs.declared.ending.Ending.TheVariants.{Done, Keeper, Damaged, Read, Write, Memory, Malformed}
use Rattle.rv_cli.specs.Texts.{status_of}
use Rattle.rv_cli.specs.Change.{StoreChange}
use Rattle.rv_cli.specs.Headline.{IsLeftAs, IsNotOpened, NotFed, HasFed, RunsFeed, NotOpened, Replied, RunsOne, EndsOne, KeepsSo, KeptSound}

-- an ending whose status is that of damage is damage
no_damage : (ending : Ending) → ((damage : Damage) → ending ≢ Damaged damage) → status_of ending ≢ 5
no_damage Done other is = omega (arith, is)
no_damage Keeper other is = omega (arith, is)
no_damage (Damaged damage) other is = other damage refl
no_damage Read other is = omega (arith, is)
no_damage Write other is = omega (arith, is)
no_damage Memory other is = omega (arith, is)
no_damage (Malformed number) other is = omega (arith, is)

module _ (c : StoreChange) (told : c.told) (kept : KeptSound c.opens) where
  opens_sound : (damage : Damage) (ending : Ending) → ending ≡ Damaged damage → IsNotOpened c ending → ⊥
  opens_sound damage ending is why =
      let (book, held, was, opens) = kept in
      let (loaded, stored, damaged, left, same) = subst (λ (e : Ending). IsNotOpened c e) is why in
      opens-not_damaged (2 ^ 32 - 1) book loaded (omega arith) (subst (λ (l : Loaded). MayOpen (2 ^ 32 - 1) book l) (stored told held was) opens) damage damaged

  pub refused_sound : (ending : Ending) (status : ℕ) → IsNotOpened c ending → status ≡ status_of ending → status ≢ 5
  refused_sound ending status why is five = no_damage ending (λ damage e. opens_sound damage ending e why) (sym is ∙ five)

  fed_sound : (input input' : InputState) (output output' : OutputState) (ending : Ending) → (NotFed c input input' output output' ending × IsLeftAs c) ⊎ HasFed c input input' output output' ending
      → (damage : Damage) → ending ≢ Damaged damage
  fed_sound input input' output output' ending (inl (none, left)) damage is = opens_sound damage ending is none.why
  fed_sound input input' output output' ending (inr fed) damage is = untold ending is fed.keeps
    where
      untold : (ending : Ending) → ending ≡ Damaged damage → KeepsSo c ending → ⊥
      untold Done is keeps = cc
      untold Keeper is keeps = cc
      untold (Damaged damaged) is keeps = keeps told
      untold Read is keeps = cc
      untold Write is keeps = cc
      untold Memory is keeps = cc
      untold (Malformed number) is keeps = cc

  pub feed_sound : (input input' : InputState) (output output' : OutputState) (status : ℕ) → RunsFeed c input input' output output' status → status ≢ 5
  feed_sound input input' output output' status (ending, is, runs) five = no_damage ending (fed_sound input input' output output' ending runs) (sym is ∙ five)

  replied_sound : (line : Line) (output output' : OutputState) (ending : Ending) → (NotOpened c output output' ending × IsLeftAs c) ⊎ Replied c line output output' ending
      → (damage : Damage) → ending ≢ Damaged damage
  replied_sound line output output' ending (inl (none, left)) damage is = opens_sound damage ending is none.why
  replied_sound line output output' ending (inr replied) damage is = subst (λ (e : Ending). EndsOne c.told (replied.first) line replied.text replied.now e) is replied.ends

  pub one_sound : (line : Line) (output output' : OutputState) (status : ℕ) → RunsOne c line output output' status → status ≢ 5
  one_sound line output output' status (ending, is, runs) five = no_damage ending (replied_sound line output output' ending runs) (sym is ∙ five)

-- the store in memory is opened with the empty book
pub memory_sound : (store : List ℕ) (Stored : Loaded → Type 0) → store ≡ codes "memory" → KeptSound (OpensAs store Stored)
memory_sound store Stored is = (
  empty_book,
  holding [] 0,
  inl (is, refl),
  record {
    sound = record { lawful = lawful_none; within = omega arith; fits = tt; parts = record { rows = tt; clients = tt; groups = tt } };
    kept = record {
      cells = record { rows = []; records = []; replay = replay_none; kept = records_none; made = refl };
      generation = refl;
    };
  },
)
