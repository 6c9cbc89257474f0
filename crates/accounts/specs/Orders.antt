-- What is done to an account, and what it may reply.
use Rattle.std.specs.Prelude.{◌≡◌, ◌≤◌, ◌<◌, ◌+◌}
use Rattle.accounts.specs.declared.account.Account.{Account}
use Rattle.accounts.specs.declared.order.Order.{Order}
use Rattle.accounts.specs.declared.order.Order.TheVariants.{Deposit, Read}
use Rattle.accounts.specs.declared.order.Told.{Told}
use Rattle.accounts.specs.declared.order.Told.TheVariants.{Deposited, Holds, TooMuch}

module _ {R : Type 0} where
  -- a deposit sets the balance and nothing else, or leaves the account as it was; who reads leaves it too
  abbrev pub order_does : Order → Account R → Told → Account R → Type 0
  order_does (Deposit amount) old (Deposited sum) new = (new ≡ record old { balance = sum }) × (sum ≡ old.balance + amount) × (sum ≤ 1000)
  order_does (Deposit amount) old TooMuch new = (new ≡ old) × (1000 < old.balance + amount)
  order_does Read old (Holds balance) new = (new ≡ old) × (balance ≡ old.balance)
  order_does order old reply new = ⊥

-- a deposit that is agreed to leaves at most 1000
abbrev pub deposits_fit : Told → Type 0
deposits_fit (Deposited sum) = sum ≤ 1000
deposits_fit told = Unit {0}
