pub mod ProductService
