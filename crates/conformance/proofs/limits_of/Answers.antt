-- `conformance::limits_of` meets its contract: the named limits are those of the definitions. Assumes nothing.
use borrow.Author.Tests.{eq-eqb, ne_eqb}
use borrow.Author.Rules.{rules}
use Rattle.conformance.proofs.limits_of.Goals as goal

pub returns-then-letter-eq108 : goal.returns-then-letter-eq108
returns-then-letter-eq108 c =
    search (rules, eq-eqb)

pub returns-else-letter-eq108 : goal.returns-else-letter-eq108
returns-else-letter-eq108 c =
    search (rules, ne_eqb)
