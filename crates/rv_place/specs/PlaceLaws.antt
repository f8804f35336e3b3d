-- Laws of the stores of a run.
use Rattle.std.proofs.Common.{◌≡◌, ℕ, List, inl, inr, sym, ◌∙◌}
use Rattle.rv_keeper.specs.declared.loaded.Loaded.{Loaded}
use Rattle.rv_keeper.specs.Stores.{OpensAs}
use Rattle.rv_place.specs.declared.opened.Opened.{Opened}
use Rattle.rv_place.specs.declared.opened.Opened.TheVariants.{Not, Out, Back, Lost}
use Rattle.rv_place.specs.Places.{OpenedHolds, OpenedTells}

-- a store is opened with one thing
opens_one : (Held : Loaded → Type 0) → ((one two : Loaded) → Held one → Held two → one ≡ two) → (name : List ℕ) (one two : Loaded) → OpensAs name Held one → OpensAs name Held two → one ≡ two
opens_one Held same name one two (inl is) (inl also) = is.1 ∙ sym also.1
opens_one Held same name one two (inr is) (inr also) = same one two is.1 also.1
opens_one Held same name one two (inl is) (inr also) = absurd (also.0 is.0)
opens_one Held same name one two (inr is) (inl also) = absurd (is.0 also.0)

module _ {S K : Type 0} where
  -- what tells is honest, where its keepers are so
  pub opened_honestly : (Tells Honest : K → Type 0) → ((kept : K) → Tells kept → Honest kept) → (opened : Opened S K) → OpenedTells Tells opened → OpenedTells Honest opened
  opened_honestly Tells Honest honestly (Not start) told = tt
  opened_honestly Tells Honest honestly (Out own) told = tt
  opened_honestly Tells Honest honestly (Back own kept) told = honestly kept told
  opened_honestly Tells Honest honestly Lost told = absurd told

  -- a store holds one thing, where its keepers do
  pub opened_one : (Tells : K → Type 0) (Holds : K → Loaded → Type 0) (Held : Loaded → Type 0) → ((one two : Loaded) → Held one → Held two → one ≡ two) → ((kept : K) (one two : Loaded) → Tells kept → Holds kept one → Holds kept two → one ≡ two)
      → (opened : Opened S K) (name : List ℕ) (one two : Loaded) → OpenedTells Tells opened → OpenedHolds Holds Held opened name one → OpenedHolds Holds Held opened name two → one ≡ two
  opened_one Tells Holds Held same kept_one (Not start) name one two told is also = opens_one Held same name one two is also
  opened_one Tells Holds Held same kept_one (Out own) name one two told is also = opens_one Held same name one two is.1 also.1
  opened_one Tells Holds Held same kept_one (Back own kept) name one two told (inl is) (inl also) = kept_one kept one two told is.1 also.1
  opened_one Tells Holds Held same kept_one (Back own kept) name one two told (inr is) (inr also) = opens_one Held same name one two is.1 also.1
  opened_one Tells Holds Held same kept_one (Back own kept) name one two told (inl is) (inr also) = absurd (also.0 is.0)
  opened_one Tells Holds Held same kept_one (Back own kept) name one two told (inr is) (inl also) = absurd (is.0 also.0)
  opened_one Tells Holds Held same kept_one Lost name one two told is also = absurd told
