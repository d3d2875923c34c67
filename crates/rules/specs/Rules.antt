-- What is wrong with a problem's words: the rules as tests, to be computed, and the first refusal in document 01's order.
use Rattle.std.specs.Prelude.{ℕ, suc, ◌+◌, ◌*◌, ◌^◌, Bool, ◌&&◌, ◌||◌, not, List, leb, ltb, eqb}
use Rattle.basics.specs.Bits.{bit}
use Rattle.basics.specs.Tests.{outside, some}
use Rattle.rules.specs.declared.Refusal.TheVariants.{Header, Column, Identity, Timing, Triggers}
use Rattle.rules.specs.Refusal.{guard, ◌⊕◌, first_fault, Fault}
use Rattle.rules.specs.Offsets.{rows_byte, cycle_byte, ref_len_byte, ref_id_byte, limit_byte, columns_byte, messages_byte}
use Rattle.rules.specs.Problem.{rows, cycle, ref_len, ref_id, limit, columns, messages, start, width, kind, identifier, sender, size, receivers, period, offset, deadline, earliest, nodes, triggers}

abbrev pub is_row_count : ℕ → Bool
is_row_count r = eqb r 1 || eqb r 2 || eqb r 4 || eqb r 8 || eqb r 16 || eqb r 32 || eqb r 64

-- ---- the header: the first number in file order that is outside its range, by the byte at which it begins
unfoldable pub header_fault : List ℕ → Fault
header_fault p =
    guard (not (is_row_count (rows p))) (Header rows_byte)
    ⊕ guard (outside (cycle p) 1 65535) (Header cycle_byte)
    ⊕ guard (outside (ref_len p) 65 (cycle p)) (Header ref_len_byte)
    ⊕ guard (ltb 2047 (ref_id p)) (Header ref_id_byte)
    ⊕ guard (outside (limit p) 1 32) (Header limit_byte)
    ⊕ guard (outside (columns p) 1 32) (Header columns_byte)
    ⊕ guard (ltb 64 (messages p)) (Header messages_byte)

-- ---- the rules behind it as tests: each says that a rule is broken
-- column c breaks its rule; only the last has that of the cycle's end
unfoldable pub column_wrong : List ℕ → ℕ → Bool
column_wrong p c =
    ltb 65535 (start p c)
    || ltb 65535 (width p c)
    || eqb (width p c) 0
    || ltb 0 (kind p c)
    || ltb (start p c) (earliest p c)
    || eqb (suc c) (columns p) && ltb (cycle p) (start p c + width p c)

-- an earlier message has message j's identifier
unfoldable pub repeated : List ℕ → ℕ → Bool
repeated p j = some j (λ i. eqb (identifier p i) (identifier p j))

-- message j's identifier, node, data bytes or mask is wrong
unfoldable pub identity_wrong : List ℕ → ℕ → Bool
identity_wrong p j =
    ltb 2047 (identifier p j)
    || eqb (identifier p j) (ref_id p)
    || ltb 15 (sender p j)
    || ltb 8 (size p j)
    || ltb 65535 (receivers p j)
    || eqb (bit (receivers p j) (sender p j)) 1
    || repeated p j

-- a period is the cycle times 2^k, with 2^k at most the rows
unfoldable pub on_grid : ℕ → ℕ → ℕ → Bool
on_grid r b t = some 7 (λ k. leb (2 ^ k) r && eqb t (b * 2 ^ k))

-- message j's period, offset or deadline is wrong
unfoldable pub timing_wrong : List ℕ → ℕ → Bool
timing_wrong p j =
    not (on_grid (rows p) (cycle p) (period p j))
    || leb (period p j) (offset p j)
    || eqb (deadline p j) 0
    || ltb (period p j) (deadline p j)

-- node n needs more triggers than a node may have
unfoldable pub overloaded : List ℕ → ℕ → Bool
overloaded p n = ltb (limit p) (triggers p n)

-- ---- what is wrong: with a column, a message, a node
abbrev pub column_fault : List ℕ → ℕ → Fault
column_fault p c = guard (column_wrong p c) (Column c)

abbrev pub message_fault : List ℕ → ℕ → Fault
message_fault p j = guard (identity_wrong p j) (Identity j) ⊕ guard (timing_wrong p j) (Timing j)

abbrev pub node_fault : List ℕ → ℕ → Fault
node_fault p n = guard (overloaded p n) (Triggers n)

-- with the words behind the header: the columns, then message by message, then the nodes
unfoldable pub words_fault : List ℕ → Fault
words_fault p = first_fault (columns p) (column_fault p) ⊕ first_fault (messages p) (message_fault p) ⊕ first_fault nodes (node_fault p)
