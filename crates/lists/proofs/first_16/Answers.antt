-- Each call of the closure gives a byte of the same bytes.
use Rattle.std.proofs.Common.{rules, get_or}
use Rattle.lists.proofs.Calls.{from-fn-is}
use Rattle.lists.proofs.first_16.Goals as goal

pub returns : goal.returns
returns c = from-fn-is _ (λ f i. get_or f.0.now i 0) 16 (λ p q i y below called. (search rules, search rules)) 0 _ _ c.from_fn.ensures.items
