-- What a stock of listeners in memory has.
use Rattle.rv_doubles.specs.declared.memory_stock.MemoryStock.{MemoryStock}
use Rattle.rv_net.specs.Giving.{Giving}

abbrev pub giving_of : {L : Type 0} → MemoryStock L → Giving L
giving_of stock = record { to_give = stock.to_give.items; came_back = stock.came_back.items; out = stock.out; wanted = stock.wanted }
