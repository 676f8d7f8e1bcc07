use Rattle.std.proofs.Common.{Contains, Some}
use Rattle.willow_entry.proofs.LiveParts.{all_from_contains}
use Rattle.block_store.specs.InBox.{rows_in}
use Rattle.sync_core.specs.Place.{first_place}
use Rattle.sync_core.specs.Talks.{rows_said}
use Rattle.sync_core.proofs.Weighing.{told_within, told_held, told_once, none_told}
use Rattle.sync_core.proofs.laws.each_row_once.Goals as goal

pub returns-clause-no_more : goal.returns-clause-no_more
returns-clause-no_more c = λ version role rows x read passes. told_within version role rows read x passes

pub returns-clause-held : goal.returns-clause-held
returns-clause-held c = λ version role rows x read. all_from_contains (Contains (rows_in x rows)) (rows_said (first_place version role rows (Some x)) read) (told_held version role rows read x)

pub returns-clause-once : goal.returns-clause-once
returns-clause-once c = λ version role rows x read. told_once version role rows read x

pub returns-clause-without_a_box : goal.returns-clause-without_a_box
returns-clause-without_a_box c = none_told
