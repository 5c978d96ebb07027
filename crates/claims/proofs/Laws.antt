-- The laws that crates above cite: of the loop over the counts, and of what is to come behind a cursor.
pub use Rattle.claims.proofs.Counting.{Counting, counts-sum, open-sum, counting-place, counting-most}
pub use Rattle.claims.proofs.ToCome.{next-risk-own, next-risk-past, next-risk, next-claim, next-claim-past, next-claim-later}
