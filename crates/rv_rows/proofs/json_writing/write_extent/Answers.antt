use Rattle.std.proofs.Common.{◌≡◌, ℕ, List, [], ◌∷◌, ◌++◌, refl, rules, append_assoc}
use Rattle.std.specs.Prelude.{codes}
use Rattle.json.specs.Token.{key, string, begin_object, end_object}
use Rattle.json.specs.Tree.{json_tokens}
use Rattle.serde_json.specs.Written.{outline}
use Rattle.rv_rows.specs.declared.row.Row.TheVariants as variants
use Rattle.rv_rows.specs.RowTexts.{ids_data, row_data}
use Rattle.rv_rows.proofs.json_writing.write_extent.Goals as goal

-- the tokens of an extent, with those of its lists between
extent_tokens : (user : List ℕ) (lists : List (List ℕ)) → json_tokens (outline (row_data (variants.Extent (record { user = user; lists = lists }))))
    ≡ begin_object ∷ key (codes "lists") ∷ (json_tokens (outline (ids_data lists)) ++ key (codes "user") ∷ string user ∷ end_object ∷ [])
extent_tokens user lists = refl

pub returns : goal.returns
returns c = (
  search rules,
  simp (
    append_assoc,
    extent_tokens c.args.row.now.user c.args.row.now.lists,
    c.in_ok-end_object.ensures.ok,
    c.in_ok-write_text_member.ensures.1,
    c.in_ok-write_ids.ensures.1,
    c.in_ok-key.ensures.ok,
    c.in_ok-begin_object.ensures.ok,
    c.as_slice.ensures,
    c.as_str.ensures.value,
  ),
)
