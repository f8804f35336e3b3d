-- What the texts mean, wherever the table stands, and where it doesn't.
use Rattle.std.proofs.Common.{◌≡◌, ℕ, ◌+◌, List, [], ◌∷◌, ◌++◌, codes, length, is_err, pos, negsuc, true, false, Some, None, Ok, Err, Option, slice_get, slice_range, refl, ap, sym, subst, ◌∙◌}
use Rattle.sqlite_ast.specs.declared.Core.{Core, out-Core, roll-Core}
use Rattle.sqlite_ast.specs.declared.CreateTable.{CreateTable as Written}
use Rattle.sqlite_ast.specs.declared.Expr.{Expr}
use Rattle.sqlite_ast.specs.declared.Expr.TheOpen.{Shown-F}
use Rattle.sqlite_ast.specs.declared.Expr.TheVariants as e
use Rattle.sqlite_ast.specs.declared.Binary.TheVariants as binary
use Rattle.sqlite_ast.specs.declared.Conflict.TheVariants as conflict
use Rattle.sqlite_ast.specs.declared.Origin.TheVariants as origin
use Rattle.sqlite_ast.specs.declared.Rows.TheVariants as rows
use Rattle.sqlite_ast.specs.declared.Select.{Select as Query-Text, roll-Select}
use Rattle.sqlite_ast.specs.declared.Shown.{Shown, roll-Shown}
use Rattle.sqlite_ast.specs.declared.Sort.{Sort, roll-Sort}
use Rattle.sqlite_ast.specs.declared.Source.{Source, roll-Source}
use Rattle.sqlite_ast.specs.declared.Statement.{Statement}
use Rattle.sqlite_ast.specs.declared.Statement.TheVariants as written
use Rattle.sqlite_syntax.specs.declared.statement.Parsed.{Parsed}
use Rattle.sqlite.specs.Command.{Command}
use Rattle.sqlite.specs.Command.TheVariants.{Select, Nothing, CreateTable, Delete, InsertOr, Rollback}
use Rattle.sqlite.specs.Query.{Query, inner, end}
use Rattle.sqlite.specs.Term.{Term, lit, col, op2}
use Rattle.sqlite_value.specs.declared.keys.Key.{Key}
use Rattle.sqlite_value.specs.declared.keys.Collation.TheVariants.{Binary}
use Rattle.sqlite_value.specs.declared.value.Value.TheVariants.{Null, Int}
use Rattle.sqlite_sql.specs.declared.ops.BinaryOp.TheVariants.{Compare}
use Rattle.sqlite_sql.specs.declared.ops.CompareOp.TheVariants.{Eq}
use Rattle.sqlite_schema.specs.declared.schema.Schema.{Schema}
use Rattle.sqlite_schema.specs.declared.schema.Table.{Table}
use Rattle.sqlite_schema.specs.declared.program.Program.{Program}
use Rattle.sqlite_schema.specs.declared.command.Conflict.TheVariants.{Abort}
use Rattle.sqlite_schema.specs.declared.command.Returning.{Returning}
use Rattle.sqlite_schema.specs.declared.command.Upsert.{Upsert}
use Rattle.sqlite_schema.specs.declared.command.Source.TheVariants.{Values}
use Rattle.sqlite_schema.specs.Names.{index_named, same_name, table_named, view_named}
use Rattle.sqlite_draft.specs.declared.query.Draft.{Draft}
use Rattle.sqlite_tied.specs.Compute.{everything}
use Rattle.sqlite.specs.Listing.{understood, reads_listing, listing_schema, if_select, misses_table}
use Rattle.sqlite_resolve.specs.declared.compiled.Compiled.{Compiled}
use Rattle.sqlite_resolve.specs.declared.error.CompileError.TheVariants.{NoSuchTable}
use Rattle.sqlite_resolve.specs.Compile as Compile
use Rattle.sqlite_resolve.specs.Compile.{command, compiled, create_table, creates, delete, first, insert_or, insert_or_abort, is_attached, is_reserved, meaning, planned, returning, shows, table_defined_by, timed, with_command}
use Rattle.sqlite_resolve.specs.Define as define
use Rattle.sqlite_resolve.specs.Lowering.{and_then}
use Rattle.sqlite_resolve.specs.Program as Program
use Rattle.sqlite_resolve.specs.Program.{program, query, query_to}
use Rattle.sqlite_resolve.specs.Select as select
use Rattle.sqlite_resolve.proofs.ProgramLemmas.{single_named}
use Rattle.sqlite.proofs.Callers.{IsPlain, command_of, statement_of}
use Rattle.rv_sqlite.specs.Asked.{one_text}
use Rattle.rv_sqlite.specs.Loads.{make_text, all_text}
use Rattle.rv_sqlite.specs.Table.{IsCellAt, cell_table, is_unused, put_text, remove_text}
use Rattle.rv_sqlite.proofs.CellAt.{found, indexless, key, low, viewless}
use Rattle.rv_sqlite.specs.KnownLaws.{unused_names}

-- all rows of the table in this tree that pass the terms
abbrev pub scan : ℕ → List Term → List Term → List (Term × Key) → Query
scan tree terms shown order = record {
  from = inner tree end;
  filter = terms;
  group = None;
  project = shown;
  distinct = false;
  collations = [];
  order = order;
  limit = lit (Int (negsuc 0));
  offset = lit (Int (pos 0));
}

abbrev pub alone : Query → Program
alone q = record { lets = []; body = q }

-- shelf = ?1 AND k = ?2
abbrev pub at_place : List Term
at_place = op2 (Compare Eq Binary) (col 1 1) (col 0 0) ∷ op2 (Compare Eq Binary) (col 1 2) (col 0 1) ∷ []

abbrev pub by_place : List (Term × Key)
by_place = (col 1 1, record { collation = Binary; descending = false }) ∷ (col 1 2, record { collation = Binary; descending = false }) ∷ []

abbrev pub remove_command : ℕ → ℕ → Command
remove_command at tree = Delete at (alone (scan tree at_place (col 1 0 ∷ []) []))

abbrev pub update_program : ℕ → Program
update_program tree = alone (scan tree (op2 (Compare Eq Binary) (col 1 0) (col 0 3) ∷ []) (col 1 0 ∷ col 1 0 ∷ col 1 1 ∷ col 1 2 ∷ col 0 7 ∷ []) [])

abbrev pub put_terms : List Term
put_terms = lit Null ∷ col 0 0 ∷ col 0 1 ∷ col 0 2 ∷ []

abbrev pub upsert : ℕ → Upsert
upsert tree = record { target = Some (1 ∷ 2 ∷ []); update = Some (update_program tree) }

abbrev pub put_command : ℕ → ℕ → Command
put_command at tree = InsertOr at Abort (Values put_terms 4) (upsert tree ∷ [])

abbrev pub all_command : ℕ → Command
all_command tree = Select (alone (scan tree [] (col 1 1 ∷ col 1 2 ∷ col 1 3 ∷ []) by_place)) (codes "shelf" ∷ codes "k" ∷ codes "body" ∷ [])

abbrev pub one_command : ℕ → Command
one_command tree = Select (alone (scan tree at_place (col 1 3 ∷ []) [])) (codes "body" ∷ [])

-- ---- the texts as they are read

abbrev pub place : Expr
place = e.Binary binary.And (e.Binary binary.Eq (e.Column None (codes "shelf")) (e.Parameter 1)) (e.Binary binary.Eq (e.Column None (codes "k")) (e.Parameter 2))

abbrev pub put_statement : Statement
put_statement = written.Insert conflict.Abort (codes "cell") (codes "shelf" ∷ codes "k" ∷ codes "body" ∷ []) (rows.Values ((e.Parameter 1 ∷ e.Parameter 2 ∷ e.Parameter 3 ∷ []) ∷ []))
    (record { target = codes "shelf" ∷ codes "k" ∷ []; sets = (codes "body", e.Column (Some (codes "excluded")) (codes "body")) ∷ []; filter = None } ∷ []) []

abbrev column_shown : List ℕ → Shown
column_shown name = roll-Shown (Shown-F.One (e.Column None name) None name)

abbrev ascends : List ℕ → Sort
ascends name = roll-Sort (record { key = e.Column None name; descending = false; nulls_first = None })

abbrev of_cell : Source
of_cell = roll-Source (record { is_left = false; origin = origin.Table (codes "cell"); alias = None; on = None; using = [] })

abbrev selected : List Shown → Option Expr → List Sort → Query-Text
selected shown filter order = roll-Select (record {
  with = [];
  first = roll-Core (record { distinct = false; shown = shown; from = of_cell ∷ []; filter = filter; group = []; having = None });
  others = [];
  order = order;
  limit = None;
  offset = None;
})

abbrev one_select : Query-Text
one_select = selected (column_shown (codes "body") ∷ []) (Some place) []

abbrev all_select : Query-Text
all_select = selected (column_shown (codes "shelf") ∷ column_shown (codes "k") ∷ column_shown (codes "body") ∷ []) None (ascends (codes "shelf") ∷ ascends (codes "k") ∷ [])

abbrev core_of : List Shown → Option Expr → Core
core_of shown filter = roll-Core (record { distinct = false; shown = shown; from = of_cell ∷ []; filter = filter; group = []; having = None })

remove_read : (p : Parsed) × (first remove_text ≡ Ok p) × (p.statement ≡ written.Delete (codes "cell") (Some place) []) × (p.formats ≡ [])
unfolding everything
remove_read = (_, refl, refl, refl)

put_read : (p : Parsed) × (first put_text ≡ Ok p) × (p.statement ≡ put_statement) × (p.formats ≡ []) × (length p.names ≡ 3)
unfolding everything
put_read = (_, refl, refl, refl, refl)

one_read : (p : Parsed) × (first one_text ≡ Ok p) × (p.statement ≡ written.Select one_select) × (p.formats ≡ [])
unfolding everything
one_read = (_, refl, refl, refl)

all_read : (p : Parsed) × (first all_text ≡ Ok p) × (p.statement ≡ written.Select all_select) × (p.formats ≡ [])
unfolding everything
all_read = (_, refl, refl, refl)

make_read : (p : Parsed) × (def : Written) × (first make_text ≡ Ok p) × (p.statement ≡ written.CreateTable def) × (p.formats ≡ []) × (def.name ≡ codes "cell") × (def.if_missing ≡ true) × (def.resolves ≡ false)
    × (define.table [] def ≡ Ok cell_table) × (slice_range make_text p.start p.end ≡ make_text)
unfolding everything
make_read = (_, _, refl, refl, refl, refl, refl, refl, refl, refl)

pub makes_cell : table_defined_by make_text ≡ Ok cell_table
unfolding everything
makes_cell = refl

-- ---- from a plan to what it means

-- the text means this command, is plain, and reads no listing
pub record Means (schema : Schema) (text : List ℕ) (command : Command) : Type 0 where
  pub is : command_of (understood schema text) ≡ command
  pub plain : IsPlain (understood schema text)
  pub unlisted : reads_listing schema text ≡ false

module _ (schema : Schema) (text : List ℕ) (p : Parsed) (read : first text ≡ Ok p) where
  compiled_by : (plan : List (List ℕ) × (Command × Option Returning)) → planned schema p ≡ Ok plan → compiled schema text ≡ Ok (with_command p plan)
  unfolding compiled
  compiled_by plan means = simp (read, means)

  understood_by : (c : Compiled) → compiled schema text ≡ Ok c → understood schema text ≡ Ok c
  unfolding understood
  understood_by c is = simp is

  understood_as : (command : Command) → planned schema p ≡ Ok ([], (command, None)) → understood schema text ≡ Ok (with_command p ([], (command, None)))
  understood_as command plan = understood_by _ (compiled_by _ plan)

  means_by : (command : Command) → planned schema p ≡ Ok ([], (command, None)) → Means schema text command
  means_by command plan =
      let c = understood_as command plan in
      record {
        is = ap command_of c;
        plain = subst IsPlain (sym c) (refl, refl);
        unlisted = ap misses_table (compiled_by _ plan);
      }

  refused_by : planned schema p ≡ Err NoSuchTable → compiled schema text ≡ Err NoSuchTable
  unfolding compiled
  refused_by plan = simp (read, plan)

not_understood : (schema : Schema) (text : List ℕ) → compiled schema text ≡ Err NoSuchTable → is_err (if_select (compiled listing_schema text)) ≡ true → is_err (understood schema text) ≡ true
unfolding understood
not_understood schema text is listing = simp (is, listing)

pub rollback_is : (schema : Schema) → command_of (understood schema (codes "ROLLBACK")) ≡ Rollback
unfolding understood everything
rollback_is schema = refl

pub rollback_plain : (schema : Schema) → IsPlain (understood schema (codes "ROLLBACK"))
unfolding understood everything
rollback_plain schema = (refl, refl)

-- ---- where the table stands

last_got : {X : Type 0} (xs : List X) (x : X) → slice_get (xs ++ x ∷ []) (length xs) ≡ Some x
last_got [] x = refl
last_got (y ∷ xs) x = last_got xs x

module _ (schema : Schema) (at tree : ℕ) (it : IsCellAt schema at tree) where
  abbrev draft_of : List Term → List Term → List (Term × Key) → Draft
  draft_of terms shown order =
      record { from = inner tree end; filter = terms; group = None; project = shown; distinct = false; collations = []; order = order; limit = lit (Int (negsuc 0)); offset = lit (Int (pos 0)) }

  removes : (p : Parsed) → p.statement ≡ written.Delete (codes "cell") (Some place) [] → p.formats ≡ [] → planned schema p ≡ Ok ([], (remove_command at tree, None))
  unfolding everything
  removes p is untimed = simp (is, untimed, it.named, it.there, found schema at tree it, low schema at tree it)

  puts : (p : Parsed) → p.statement ≡ put_statement → p.formats ≡ [] → length p.names ≡ 3 → planned schema p ≡ Ok ([], (put_command at tree, None))
  unfolding everything
  puts p is untimed three =
      let k = key schema at tree it in
      simp (is, untimed, three, it.named, it.there, found schema at tree it, low schema at tree it, k.1, k.2, last_got schema.tables)

  one_named : select.named schema (core_of (column_shown (codes "body") ∷ []) (Some place)) [] (lit (Int (negsuc 0)), lit (Int (pos 0))) ≡ Ok (draft_of at_place (col 1 3 ∷ []) [], codes "body" ∷ [], Some Binary ∷ [])
  unfolding everything
  one_named = simp (it.named, it.there)

  all_named : select.named schema (core_of (column_shown (codes "shelf") ∷ column_shown (codes "k") ∷ column_shown (codes "body") ∷ []) None) (ascends (codes "shelf") ∷ ascends (codes "k") ∷ []) (lit (Int (negsuc 0)), lit (Int (pos 0)))
      ≡ Ok (draft_of [] (col 1 1 ∷ col 1 2 ∷ col 1 3 ∷ []) by_place, codes "shelf" ∷ codes "k" ∷ codes "body" ∷ [], Some Binary ∷ Some Binary ∷ Some Binary ∷ [])
  unfolding everything
  all_named = simp (it.named, it.there)

  alone_named : (again : Schema → Query-Text → Program.Building Program.Shown) (core : Core) (order : List Sort) (shown : Program.Shown) → Program.are_named (out-Core core).from ≡ true
      → select.named schema core order (lit (Int (negsuc 0)), lit (Int (pos 0))) ≡ Ok shown → Program.alone again schema core order (lit (Int (negsuc 0)), lit (Int (pos 0))) [] ≡ Ok (shown, [])
  unfolding Program.alone
  alone_named again core order shown plain is =
      let from = single_named again schema core order (lit (Int (negsuc 0)), lit (Int (pos 0))) [] plain in
      ap (λ r. and_then r (λ p. Ok (p.0.0, p.1))) (from ∙ ap (λ r. Program.or_view again (Program.viewing again schema core order (lit (Int (negsuc 0)), lit (Int (pos 0))) 63) schema schema r []) is)

  one_queried : query schema one_select ≡ Ok ((draft_of at_place (col 1 3 ∷ []) [], codes "body" ∷ [], Some Binary ∷ []), [])
  unfolding everything
  one_queried = alone_named (query_to 15) (core_of (column_shown (codes "body") ∷ []) (Some place)) [] _ refl one_named

  all_queried : query schema all_select ≡ Ok ((draft_of [] (col 1 1 ∷ col 1 2 ∷ col 1 3 ∷ []) by_place, codes "shelf" ∷ codes "k" ∷ codes "body" ∷ [], Some Binary ∷ Some Binary ∷ Some Binary ∷ []), [])
  unfolding everything
  all_queried = alone_named (query_to 15) (core_of (column_shown (codes "shelf") ∷ column_shown (codes "k") ∷ column_shown (codes "body") ∷ []) None) (ascends (codes "shelf") ∷ ascends (codes "k") ∷ []) _ refl all_named

  asks : (p : Parsed) → p.statement ≡ written.Select one_select → p.formats ≡ [] → planned schema p ≡ Ok ([], (one_command tree, None))
  unfolding planned meaning timed returning command Compile.read program
  asks p is untimed = simp (is, untimed, one_queried, found schema at tree it, low schema at tree it)

  lists : (p : Parsed) → p.statement ≡ written.Select all_select → p.formats ≡ [] → planned schema p ≡ Ok ([], (all_command tree, None))
  unfolding planned meaning timed returning command Compile.read program
  lists p is untimed = simp (is, untimed, all_queried, found schema at tree it, low schema at tree it)

  pub remove_means : Means schema remove_text (remove_command at tree)
  remove_means = let (p, read, is, untimed) = remove_read in means_by schema remove_text p read (remove_command at tree) (removes p is untimed)

  pub put_means : Means schema put_text (put_command at tree)
  put_means = let (p, read, is, untimed, three) = put_read in means_by schema put_text p read (put_command at tree) (puts p is untimed three)

  pub one_means : Means schema one_text (one_command tree)
  one_means = let (p, read, is, untimed) = one_read in means_by schema one_text p read (one_command tree) (asks p is untimed)

  pub all_means : Means schema all_text (all_command tree)
  all_means = let (p, read, is, untimed) = all_read in means_by schema all_text p read (all_command tree) (lists p is untimed)

  keeps : (p : Parsed) (def : Written) → p.statement ≡ written.CreateTable def → p.formats ≡ [] → def.name ≡ codes "cell" → def.if_missing ≡ true → def.resolves ≡ false → planned schema p ≡ Ok ([], (Nothing, None))
  unfolding planned meaning timed returning command create_table is_attached creates is_reserved Rattle.sqlite_schema.specs.Names.same_name
  keeps p def is untimed name missing resolves = simp (is, untimed, name, missing, resolves, it.named, indexless schema at tree it, viewless schema at tree it)

  -- where the table is there, it is not made
  pub again_means : Means schema make_text Nothing
  again_means = let (p, def, read, is, untimed, name, missing, resolves, made, whole) = make_read in means_by schema make_text p read Nothing (keeps p def is untimed name missing resolves)

-- ---- where nothing has the name

module _ (schema : Schema) (unused : is_unused schema ≡ true) where
  no_table : table_named schema (codes "cell") ≡ None
  no_table = (unused_names schema unused).0

  no_index : index_named schema (codes "cell") ≡ None
  no_index = (unused_names schema unused).1

  no_view : view_named schema (codes "cell") ≡ None
  no_view = (unused_names schema unused).2

  makes : (p : Parsed) (def : Written) → p.statement ≡ written.CreateTable def → p.formats ≡ [] → def.name ≡ codes "cell" → def.if_missing ≡ true → def.resolves ≡ false → define.table [] def ≡ Ok cell_table
      → planned schema p ≡ Ok ([], (CreateTable, None))
  unfolding planned meaning timed returning command create_table is_attached creates is_reserved Rattle.sqlite_schema.specs.Names.same_name
  makes p def is untimed name missing resolves made = simp (is, untimed, name, missing, resolves, made, no_table, no_index, no_view)

  pub make_means : Means schema make_text CreateTable
  make_means = let (p, def, read, is, untimed, name, missing, resolves, made, whole) = make_read in means_by schema make_text p read CreateTable (makes p def is untimed name missing resolves made)

  pub make_statement : statement_of make_text (understood schema make_text) ≡ make_text
  make_statement =
      let (p, def, read, is, untimed, name, missing, resolves, made, whole) = make_read in
      ap (statement_of make_text) (understood_as schema make_text p read CreateTable (makes p def is untimed name missing resolves made)) ∙ whole

  takes_none : (p : Parsed) → p.statement ≡ written.Delete (codes "cell") (Some place) [] → p.formats ≡ [] → planned schema p ≡ Err NoSuchTable
  unfolding planned meaning timed returning command delete shows
  takes_none p is untimed = simp (is, untimed, no_table)

  puts_none : (p : Parsed) → p.statement ≡ put_statement → p.formats ≡ [] → planned schema p ≡ Err NoSuchTable
  unfolding planned meaning timed returning command insert_or_abort insert_or shows
  puts_none p is untimed = simp (is, untimed, no_table)

  one_unnamed : select.named schema (core_of (column_shown (codes "body") ∷ []) (Some place)) [] (lit (Int (negsuc 0)), lit (Int (pos 0))) ≡ Err NoSuchTable
  unfolding everything
  one_unnamed = simp (no_table, no_view)

  all_unnamed : select.named schema (core_of (column_shown (codes "shelf") ∷ column_shown (codes "k") ∷ column_shown (codes "body") ∷ []) None) (ascends (codes "shelf") ∷ ascends (codes "k") ∷ []) (lit (Int (negsuc 0)), lit (Int (pos 0))) ≡ Err NoSuchTable
  unfolding everything
  all_unnamed = simp (no_table, no_view)

  alone_unnamed : (again : Schema → Query-Text → Program.Building Program.Shown) (core : Core) (order : List Sort) → Program.are_named (out-Core core).from ≡ true
      → select.named schema core order (lit (Int (negsuc 0)), lit (Int (pos 0))) ≡ Err NoSuchTable → Program.alone again schema core order (lit (Int (negsuc 0)), lit (Int (pos 0))) [] ≡ Err NoSuchTable
  unfolding Program.alone
  alone_unnamed again core order plain is =
      let from = single_named again schema core order (lit (Int (negsuc 0)), lit (Int (pos 0))) [] plain in
      ap (λ r. and_then r (λ p. Ok (p.0.0, p.1))) (from ∙ ap (λ r. Program.or_view again (Program.viewing again schema core order (lit (Int (negsuc 0)), lit (Int (pos 0))) 63) schema schema r []) is)

  one_unqueried : query schema one_select ≡ Err NoSuchTable
  unfolding everything
  one_unqueried = alone_unnamed (query_to 15) (core_of (column_shown (codes "body") ∷ []) (Some place)) [] refl one_unnamed

  all_unqueried : query schema all_select ≡ Err NoSuchTable
  unfolding everything
  all_unqueried = alone_unnamed (query_to 15) (core_of (column_shown (codes "shelf") ∷ column_shown (codes "k") ∷ column_shown (codes "body") ∷ []) None) (ascends (codes "shelf") ∷ ascends (codes "k") ∷ []) refl all_unnamed

  asks_none : (p : Parsed) → p.statement ≡ written.Select one_select → p.formats ≡ [] → planned schema p ≡ Err NoSuchTable
  unfolding planned meaning timed returning command Compile.read program
  asks_none p is untimed = simp (is, untimed, one_unqueried)

  lists_none : (p : Parsed) → p.statement ≡ written.Select all_select → p.formats ≡ [] → planned schema p ≡ Err NoSuchTable
  unfolding planned meaning timed returning command Compile.read program
  lists_none p is untimed = simp (is, untimed, all_unqueried)

  pub remove_nowhere : is_err (understood schema remove_text) ≡ true
  unfolding listing_schema everything
  remove_nowhere = let (p, read, is, untimed) = remove_read in not_understood schema remove_text (refused_by schema remove_text p read (takes_none p is untimed)) refl

  pub put_nowhere : is_err (understood schema put_text) ≡ true
  unfolding listing_schema everything
  put_nowhere = let (p, read, is, untimed, three) = put_read in not_understood schema put_text (refused_by schema put_text p read (puts_none p is untimed)) refl

  pub one_nowhere : is_err (understood schema one_text) ≡ true
  unfolding listing_schema everything
  one_nowhere = let (p, read, is, untimed) = one_read in not_understood schema one_text (refused_by schema one_text p read (asks_none p is untimed)) refl

  pub all_nowhere : is_err (understood schema all_text) ≡ true
  unfolding listing_schema everything
  all_nowhere = let (p, read, is, untimed) = all_read in not_understood schema all_text (refused_by schema all_text p read (lists_none p is untimed)) refl
