use Rattle.std.proofs.Common.{◌∙◌}
use Rattle.rv_record.proofs.WritingLaws.{digits-utf8}
use Rattle.rv_record.proofs.cells.ten_digits.Goals as goal

pub returns-clause-utf8 : goal.returns-clause-utf8
returns-clause-utf8 c =
    digits-utf8 _ _ _ _ (c.from_vec.ensures ∙ c.in_ok-extend_from_slice.ensures.items) (c.in_ok-key.ensures.items_if_clones_equal (λ y e. e)) c.as_bytes-digits.ensures.utf8
