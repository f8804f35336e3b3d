use Rattle.std.proofs.Common.{◌≡◌, ℕ, List, [], ◌∷◌, ◌++◌, refl, rules, append_assoc}
use Rattle.std.specs.Prelude.{codes}
use Rattle.json.specs.Token.{key, string, begin_object, end_object}
use Rattle.json.specs.Tree.{json_tokens}
use Rattle.serde_json.specs.Written.{outline}
use Rattle.rv_rows.specs.declared.role.Role.{Role}
use Rattle.rv_rows.specs.declared.role.Role.TheVariants as roles
use Rattle.rv_rows.specs.declared.row.Row.TheVariants as variants
use Rattle.rv_rows.specs.Additions.{role_tokens}
use Rattle.rv_rows.specs.RowTexts.{row_data}
use Rattle.rv_rows.proofs.json_writing.write_share.Goals as goal

-- the tokens of a share, with those of its role's member between
share_tokens : (id list user : List ℕ) (role : Role) → json_tokens (outline (row_data (variants.Share (record { id = id; list = list; user = user; role = role }))))
    ≡ begin_object ∷ key (codes "id") ∷ string id ∷ key (codes "listID") ∷ string list ∷ (role_tokens role ++ key (codes "userID") ∷ string user ∷ end_object ∷ [])
share_tokens id list user roles.View = refl
share_tokens id list user roles.Edit = refl

pub returns : goal.returns
returns c = (
  search rules,
  simp (
    append_assoc,
    share_tokens c.args.row.now.id c.args.row.now.list c.args.row.now.user c.args.row.now.role,
    c.in_ok-end_object.ensures.ok,
    c.in_ok-write_text_member-3.ensures.1,
    c.in_ok-write_role.ensures.1,
    c.in_ok-write_text_member-2.ensures.1,
    c.in_ok-write_text_member.ensures.1,
    c.in_ok-begin_object.ensures.ok,
    c.as_str.ensures.value,
    c.as_str-2.ensures.value,
    c.as_str-3.ensures.value,
  ),
)
