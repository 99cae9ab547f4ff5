-- The two counts together are at most the rows, so that nothing wraps.
use Rattle.std.proofs.Common.{arith, rules}
use Rattle.bitmap.proofs.Counting.{rows_counted}
use Rattle.bitmap.proofs.validity.Validity.null_count.Goals as goal

pub overflow_add-valid : goal.overflow_add-valid
overflow_add-valid c = let all = rows_counted _ c.args.self.now.rows _ _ (omega arith) c.ones.ensures c.tail.ensures in search rules

pub overflow_sub-result : goal.overflow_sub-result
overflow_sub-result c = omega (arith, rows_counted _ c.args.self.now.rows _ _ (omega arith) c.ones.ensures c.tail.ensures)

pub returns : goal.returns
returns c = omega (arith, rows_counted _ c.args.self.now.rows _ _ (omega arith) c.ones.ensures c.tail.ensures)
