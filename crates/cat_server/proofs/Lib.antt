mod SentStores
mod Sent
