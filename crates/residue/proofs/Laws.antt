-- The laws: everything that is proved about the rules. Each file opens with a table of what it states.
--
--   Modulo      natural numbers modulo p
--   Integers    integers by their positive and negative parts
--   Residues    least residues and signed entries (R2)
--   Primes      primality from a trial division (R1), Euclid's lemma (R3)
--   Modulus     the modulus of the delivery is prime (R1)
--   Powers      powers of two
--   Sums        sums over a count
--   Products    exact sums of products in two words
--   Signed      signed machine numbers, as a cast or a sum reads and writes them
--   Counting    at most so many things have a property
pub mod Modulo
pub mod Integers
pub mod Residues
pub mod Primes
pub mod Modulus
pub mod Powers
pub mod Sums
pub mod Products
pub mod Signed
pub mod Counting
