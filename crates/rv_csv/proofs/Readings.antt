-- What a read of a record does to the records that are left.
use Rattle.std.proofs.Common.{◌≡◌, ℕ, Bool, true, false, not, List, [], ◌∷◌, Option, Some, refl, sym, ap, ◌∙◌, subst, inl}
use Rattle.std.proofs.lemmas.Bool.{false≢true}
use Rattle.std.specs.Borrow.{Bor}
use Rattle.csv.specs.Machine.{ends_at_end}
use Rattle.csv.specs.Reading.{Reached, ReadRecord, default_config, is_flexible, reader_state, took_first}
use Rattle.csv.proofs.ReadFacts.{rows-end, rows-more}
use Rattle.rv_csv.specs.Records.{Record}
use Rattle.rv_csv.specs.Left.{SliceReader, StandsBetween, Takes, left_in, records_in}
use Rattle.rv_csv.proofs.RecordLaws.{after_record, next_is, none_is}

abbrev slice_left : Bor (List ℕ) → Option (List ℕ)
slice_left slice = Some slice.now

pub one_read : (old new : SliceReader) (fields : Record) → StandsBetween old → ReadRecord slice_left old new true fields → took_first new ≡ true → is_flexible new ≡ is_flexible old
    → StandsBetween new × (left_in false old ≡ fields ∷ left_in false new)
unfolding Reached
one_read old new fields stands read first flexible =
    let more = rows-more slice_left old new fields default_config (reader_state old) stands.bytes stands.bytes [] stands.config stands.known (refl, refl) read in
    let next = more.2.0 in
    let is = more.2.1 in
    let between = (after_record (reader_state old) [] [] stands.bytes next is).0 in (
      record {
        config = read.2 ∙ stands.config;
        trim = read.3 ∙ stands.trim;
        ready = inl first;
        flexible = flexible ∙ stands.flexible;
        bytes = more.0;
        known = more.1;
        between = subst (λ s. ends_at_end s ≡ false) more.2.3.0 between;
      },
      ap (records_in (reader_state old)) stands.known
          ∙ next_is (reader_state old) stands.bytes next stands.between is
          ∙ rw (more.1, sym more.2.2, more.2.3.0, more.2.3.1) refl,
    )

pub none_read : (old new : SliceReader) (fields : Record) → StandsBetween old → ReadRecord slice_left old new false fields → left_in false old ≡ []
none_read old new fields stands read =
    ap (records_in (reader_state old)) stands.known
    ∙ none_is (reader_state old) stands.bytes stands.between (rows-end slice_left old new fields default_config stands.bytes stands.config stands.known read)

-- where a read is over once it finds no record
pub after_read : (old new : SliceReader) (found : Bool) (fields : Record) → StandsBetween old → ReadRecord slice_left old new found fields → took_first new ≡ true → is_flexible new ≡ is_flexible old
    → Takes found fields (left_in false old) (left_in (not found) new) × ((not found) ≡ false → StandsBetween new)
after_read old new true fields stands read first flexible = let one = one_read old new fields stands read first flexible in (one.1, λ e. one.0)
after_read old new false fields stands read first flexible = (none_read old new fields stands read, λ e. absurd (false≢true (sym e)))
