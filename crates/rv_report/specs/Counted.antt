-- What rows count as, and how many of each there are.
use Rattle.std.specs.Prelude.{List, Bool, true, false, if◌then◌else◌, count_by}
use Rattle.rv_rows.specs.declared.row.Row.{Row}
use Rattle.rv_rows.specs.declared.row.Row.TheVariants as variants
use Rattle.rv_rows.specs.Held.{Stored}
use Rattle.rv_report.specs.declared.counts.Counted.{Counted}
use Rattle.rv_report.specs.declared.counts.Counted.TheVariants.{CompleteTodo, Extent, List as ListCounted, OpenTodo, Share}
use Rattle.rv_report.specs.declared.counts.Counts.{Counts}
use Rattle.rv_report.specs.Lists.{is_list_row, is_open, is_share, is_todo}

abbrev pub counted_as : Row → Counted
counted_as (variants.Extent row) = Extent
counted_as (variants.List row) = ListCounted
counted_as (variants.Share row) = Share
counted_as (variants.Todo row) = if row.complete then CompleteTodo else OpenTodo

abbrev pub counts_list : Counted → Bool
counts_list Extent = false
counts_list ListCounted = true
counts_list Share = false
counts_list OpenTodo = false
counts_list CompleteTodo = false

abbrev pub counts_share : Counted → Bool
counts_share Extent = false
counts_share ListCounted = false
counts_share Share = true
counts_share OpenTodo = false
counts_share CompleteTodo = false

abbrev pub counts_todo : Counted → Bool
counts_todo Extent = false
counts_todo ListCounted = false
counts_todo Share = false
counts_todo OpenTodo = true
counts_todo CompleteTodo = true

abbrev pub counts_open : Counted → Bool
counts_open Extent = false
counts_open ListCounted = false
counts_open Share = false
counts_open OpenTodo = true
counts_open CompleteTodo = false

abbrev pub counts_of : List Stored → Counts
counts_of rows = record { lists = count_by is_list_row rows; todos = count_by is_todo rows; incomplete = count_by is_open rows; shares = count_by is_share rows }
