-- The answers to a pull, to a retirement and to the closing of a book, as JSON.
use Rattle.std.specs.Prelude.{ℕ, Bool, List, [], ◌∷◌, map, codes}
use Rattle.serde_json.specs.Data.{Data, null, number, unsigned, string, array, object, Members, member, no_members}
use Rattle.serde_json.specs.View.{items_of}
use Rattle.serde_json.specs.Written.{compact_text}
use Rattle.rv_rows.specs.Keys.{key_text, row_text}
use Rattle.rv_rows.specs.RowTexts.{row_data}
use Rattle.rv_views.specs.declared.cookie.Cookie.{Cookie}
use Rattle.rv_views.specs.declared.cookie.Cookie.TheVariants.{Null, Bare, Named}
use Rattle.rv_turns.specs.declared.pull.PullReply.{PullReply}
use Rattle.rv_turns.specs.declared.op.Op.{Op}
use Rattle.rv_turns.specs.declared.op.Op.TheVariants.{Clear, Del, Put}

-- {"cvrID":"PLACE","order":N}
abbrev pub cookie_data : Cookie → Data
cookie_data Null = null
cookie_data (Bare order) = number (unsigned order)
cookie_data (Named place order) = object (member (codes "cvrID") (string place) (member (codes "order") (number (unsigned order)) no_members))

-- {"key":K,"op":"put","value":V}
abbrev pub put_data : List ℕ → Data → Data
put_data key value = object (member (codes "key") (string key) (member (codes "op") (string (codes "put")) (member (codes "value") value no_members)))

-- {"key":K,"op":"del"}
abbrev pub del_data : List ℕ → Data
del_data key = object (member (codes "key") (string key) (member (codes "op") (string (codes "del")) no_members))

-- {"op":"clear"}, {"key":K,"op":"del"} and {"key":K,"op":"put","value":ROW}
abbrev pub op_data : Op → Data
op_data Clear = object (member (codes "op") (string (codes "clear")) no_members)
op_data (Del key) = del_data (key_text key)
op_data (Put row) = put_data (row_text row) (row_data row)

-- each client with its last mutation id
abbrev pub id_members : List (List ℕ × ℕ) → Members
id_members [] = no_members
id_members (x ∷ xs) = member x.0 (number (unsigned x.1)) (id_members xs)

-- {"cookie":C,"lastMutationIDChanges":I,"patch":P}
abbrev pub answer_data : Data → Data → Data → Data
answer_data cookie changes patch = object (member (codes "cookie") cookie (member (codes "lastMutationIDChanges") changes (member (codes "patch") patch no_members)))

-- {"cookie":COOKIE,"lastMutationIDChanges":{CLIENT:N,..},"patch":[OP,..]}
abbrev pub pull_data : Cookie → List (List ℕ × ℕ) → List Op → Data
pull_data cookie ids ops = answer_data (cookie_data cookie) (object (id_members ids)) (array (items_of (map op_data ops)))

-- the text of the answer to a pull: its compact JSON
abbrev pub pull_json : Cookie → List (List ℕ × ℕ) → List Op → List ℕ
pull_json cookie ids ops = compact_text (pull_data cookie ids ops)

-- a reply with this cookie, these ids and this patch, and whether the cookie is the request's own
abbrev pub reply_of : Bool → Cookie → List (List ℕ × ℕ) → List Op → PullReply
reply_of same cookie ids ops = record { cookie = cookie; same = same; ids = ids; ops = ops; text = pull_json cookie ids ops }

-- {"retired":PLACE}
abbrev pub retired_data : ℕ → Data
retired_data place = object (member (codes "retired") (number (unsigned place)) no_members)

-- {"closed":PLACE}
abbrev pub closed_data : ℕ → Data
closed_data place = object (member (codes "closed") (number (unsigned place)) no_members)
